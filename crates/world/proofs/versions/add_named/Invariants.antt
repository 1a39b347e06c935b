use Rattle.std.proofs.Common.{◌≡◌, ◌++◌}
use Rattle.std.specs.FinMap as map
use Rattle.std.specs.Prelude.{map as each, string_bytes}
use Rattle.world.specs.Versions.{named}
use Rattle.world.proofs.versions.add_named.Given as goal

-- the versions so far, and those that the texts that are left name
abbrev pub invariant-loop-key : goal.invariant-loop-key
invariant-loop-key g l = l.versions.items ++ named (each string_bytes l.key-iterator) ≡ l.initial.versions.items
    ++ named (map.keys l.texts)
