use Rattle.std.proofs.Common.{◌≡◌, ◌+◌, ◌-◌, length, length-drop, take, drop, arith}
use Rattle.std.proofs.lemmas.List.{take_all}
use Rattle.modver.proofs.DotParts.{cut-at, no-dots}
use Rattle.modver.proofs.pseudo.cut_last.Goals as goal

pub returns-then-text-at-eq46 : goal.returns-then-text-at-eq46
returns-then-text-at-eq46 c =
    let at = c.loop-at.at - 1 in
    let rest = drop (at + 1) c.args.text.now in
    let whole : take (length c.args.text.now - (at + 1)) rest ≡ rest =
    take_all (length c.args.text.now - (at + 1)) rest (omega (arith, length-drop (at + 1) c.args.text.now)) in
    rw whole (cut-at c.args.text.now at (omega arith) c.if-text-at-eq46.true
    (λ k above below. c.loop-at.invariant k (omega arith) below))

pub returns : goal.returns
returns c = no-dots c.args.text.now (λ k below. c.loop-at.invariant k (omega arith) below)
