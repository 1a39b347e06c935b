use Rattle.cache.specs.Recent.{Holds}
use Rattle.cache.proofs.recent.Recent.make_room.Given as goal

abbrev pub invariant-loop : goal.invariant-loop
invariant-loop g l = (v : _) → Holds l.self v → Holds l.initial.self v
