use Rattle.std.proofs.Common.{take, take_all, subst}
use Rattle.peek.specs.Edits.{shown, IsPart}
use Rattle.peek.proofs.EditLemmas.{shown_next}
use Rattle.peek.proofs.lay_all.Goals as goal

pub loop-edit-preserved : goal.loop-edit-preserved
loop-edit-preserved c file was =
    let i = c.loop-edit.edit-index in
    let edits = c.args.edits.now in
    rw (shown_next file edits i c.edit-item.result c.edit-item.result c.loop-edit-test.true c.edit-item.is)
    (c.lay.ensures (shown file (take i edits)) (c.loop-edit.invariant file was))

pub returns : goal.returns
returns c file was =
    let all = take_all c.loop-edit.edit-index c.args.edits.now c.loop-edit-test.false in
    subst (λ it. IsPart (shown file it) c.args.at c.loop-edit.buf) all (c.loop-edit.invariant file was)
