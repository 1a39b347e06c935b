use Rattle.engine.proofs.CallLemmas.{calls_tell_alike, calls_tell_alike_as_far}
use Rattle.engine.proofs.laws.isolation_of_calls.Goals as goal

pub returns-clause-whole : goal.returns-clause-whole
returns-clause-whole g c = λ old new old_too new_too. calls_tell_alike _ _ _ _ (g.met.S.Shelves.sound old)

pub returns-clause-as_far : goal.returns-clause-as_far
returns-clause-as_far g c = λ old new old_too new_too. calls_tell_alike_as_far _ _ _ _ (g.met.S.Shelves.sound old)
