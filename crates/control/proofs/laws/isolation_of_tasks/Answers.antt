use Rattle.control.proofs.IsolatedLemmas.{tasks_are_answered_alike}
use Rattle.control.proofs.laws.isolation_of_tasks.Goals as goal

pub returns : goal.returns
returns g c = λ old new old_too new_too. tasks_are_answered_alike _ _ _ _ (g.met.S.Shelves.sound old)
