use Rattle.std.proofs.Common.{◌≡◌, ◌++◌}
use Rattle.std.specs.Prelude.{map as each, string_bytes}
use Rattle.world.specs.Lines.{in_order}
use Rattle.world.specs.Versions.{named}
use Rattle.world.proofs.versions.named.Given as goal

-- the versions so far, and those that the texts that are left name
abbrev pub invariant-loop-text : goal.invariant-loop-text
invariant-loop-text l = l.versions.items ++ named (each string_bytes l.text-iterator) ≡ named (in_order l.texts)
