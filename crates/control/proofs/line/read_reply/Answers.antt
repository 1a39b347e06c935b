use Rattle.std.proofs.Common.{arith, refl}
use Rattle.control.proofs.HeardLemmas.{all_tried, ended_late, heard, unheard}
use Rattle.control.proofs.line.read_reply.Goals as goal

pub returns-in_err-hear_on-clause-hears : goal.returns-in_err-hear_on-clause-hears
returns-in_err-hear_on-clause-hears g c =
    let reads = g.R.Hear.reads in
    unheard _ _ (reads c.args.reader.now) (reads c.loop.reader) (reads c.hear_on.new.reader) c.loop.invariant.still
    c.in_err-hear_on.field-0.0 c.from_residual.result c.from_residual.ensures.1 c.in_err-hear_on.ensures.fails

pub returns-in-All-clause-hears : goal.returns-in-All-clause-hears
returns-in-All-clause-hears g c =
    let reads = g.R.Hear.reads in
    heard _ _ (reads c.args.reader.now) (reads c.loop.reader) (reads c.hear_on.new.reader) c.loop.invariant.still
    (rw c.in-All.is at c.in_ok-hear_on.ensures.fails)

pub returns-in-Late-clause-hears : goal.returns-in-Late-clause-hears
returns-in-Late-clause-hears g c =
    let reads = g.R.Hear.reads in
    ended_late _ _ (reads c.args.reader.now) (reads c.loop.reader) (reads c.hear_on.new.reader) c.loop.invariant.still
    refl (rw c.in-Late.is at c.in_ok-hear_on.ensures.fails)

pub returns-clause-hears : goal.returns-clause-hears
returns-clause-hears g c =
    let reads = g.R.Hear.reads in
    all_tried _ _ (reads c.args.reader.now) (reads c.loop.reader) c.loop.invariant.still
    (omega (arith, c.loop-test.false))
