use Rattle.cache.specs.Recent.{Holds}
use Rattle.cache.proofs.lists.Recent+KeptList.drop_all.Given as goal

abbrev pub invariant-loop-hash : goal.invariant-loop-hash
invariant-loop-hash l = (list : _) → Holds l.self list → Holds l.initial.self list
