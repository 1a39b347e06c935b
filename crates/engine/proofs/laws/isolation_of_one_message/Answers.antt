use Rattle.engine.proofs.IsolationLemmas.{two_answers_are_alike}
use Rattle.engine.proofs.laws.isolation_of_one_message.Goals as goal

pub returns : goal.returns
returns g c = λ old new old_too new_too.
    two_answers_are_alike _ _ _ _ (g.met.S.Shelves.sound old) (g.met.T.Shelves.sound old_too)
