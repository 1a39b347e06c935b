use Rattle.histories.proofs.TimingLemmas.{moves, fails, refuses}
use Rattle.histories.proofs.deadline_writer.tell_in_time.Goals as goal

pub returns-in-Err-clause-since : goal.returns-in-Err-clause-since
returns-in-Err-clause-since g c = λ start since.
    refuses _ _ _ _ _ c.refuse.ensures.noted (c.in-Err.ensures.late start since)

pub returns-in_err-n-clause-since : goal.returns-in_err-n-clause-since
returns-in_err-n-clause-since g c = λ start since.
    fails _ _ _ _ _ c.in_err-n.ensures.noted (c.in_default.ensures.ready start since)

pub returns-clause-since : goal.returns-clause-since
returns-clause-since g c = λ start since.
    rw c.count.ensures.first
    (moves _ _ _ _ _ _ _ c.in_ok-n.ensures.noted c.count.ensures.moved (c.in_default.ensures.ready start since))
