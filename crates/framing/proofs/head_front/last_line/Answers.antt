use Rattle.std.proofs.Common.{◌≡◌, ℕ, ◌+◌, ◌-◌, take, subst, arith}
use Rattle.framing.specs.HeadFront.{EndsLine}
use Rattle.framing.proofs.HeadLineLemmas.{ends_behind}
use Rattle.framing.proofs.head_front.last_line.Goals as goal

pub returns-else-bytes-at-ne10-clause-ends : goal.returns-else-bytes-at-ne10-clause-ends
returns-else-bytes-at-ne10-clause-ends c =
    let at = c.loop-at.at in
    let last : (at - 1) + 1 ≡ at = omega (arith, c.loop-at-test.true) in
    subst (λ (n : ℕ). EndsLine (take n c.args.bytes.now)) last
    (ends_behind c.args.bytes.now (at - 1) (omega (arith, c.loop-at-test.true, c.loop-at.invariant))
    c.if-bytes-at-ne10.false)
