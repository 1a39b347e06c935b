use Rattle.std.proofs.Common.{◌≡◌, ◌+◌, drop}
use Rattle.std.specs.Option.{option_map}
use Rattle.modlex.specs.Bytes.{raw_len}
use Rattle.modlex.proofs.lexer.raw_len.Given as goal

abbrev pub invariant-loop-i : goal.invariant-loop-i
invariant-loop-i l = option_map (λ n. n + l.i) (raw_len (drop l.i l.bytes)) ≡ raw_len l.bytes
