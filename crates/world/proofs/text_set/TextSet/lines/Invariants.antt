use Rattle.std.proofs.Common.{◌≡◌, ◌++◌, string_bytes}
use Rattle.std.proofs.Common.{map as each}
use Rattle.world.specs.Lines.{in_order, lines_of}
use Rattle.world.proofs.text_set.TextSet.lines.Given as goal

abbrev pub invariant-loop-text : goal.invariant-loop-text
invariant-loop-text l = l.lines.items ++ lines_of (each string_bytes l.text-iterator) ≡ lines_of (in_order l.self)
