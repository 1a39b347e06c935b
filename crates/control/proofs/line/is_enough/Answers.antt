use Rattle.std.proofs.Common.{inl, inr, arith}
use Rattle.std.proofs.lemmas.Bool.{lt-ltb}
use Rattle.control.proofs.LineLemmas.{has_byte}
use Rattle.control.proofs.line.is_enough.Goals as goal

pub returns-then-bytes-most : goal.returns-then-bytes-most
returns-then-bytes-most c = (λ long. inr c.if-bytes-most.true, λ enough. lt-ltb _ _ c.if-bytes-most.true)

pub returns-else-bytes-most : goal.returns-else-bytes-most
returns-else-bytes-most c =
    let found = has_byte _ c.args.bytes.now c.contains.result c.contains.ensures.cases in (
      λ is. inl (found.0 is),
      λ enough.
          elim enough [ inl there ↦ found.1 there | inr long ↦ absurd (omega (arith, long, c.if-bytes-most.false)) ],
    )
