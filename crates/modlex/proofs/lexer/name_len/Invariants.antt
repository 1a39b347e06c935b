use Rattle.std.proofs.Common.{◌≡◌, ◌+◌, drop}
use Rattle.std.specs.Option.{option_map}
use Rattle.modlex.specs.Bytes.{name_len}
use Rattle.modlex.proofs.lexer.name_len.Given as goal

abbrev pub invariant-loop-i : goal.invariant-loop-i
invariant-loop-i l = option_map (λ n. n + l.i) (name_len (drop l.i l.bytes)) ≡ name_len l.bytes
