use Rattle.control.proofs.serving.Server.serve_watched.Goals as goal

pub returns-clause-serves : goal.returns-clause-serves
returns-clause-serves g c =
    rw c.into_inner.ensures.value (rw c.new-watched.ensures.value at c.serve_waiting.ensures.serves)
