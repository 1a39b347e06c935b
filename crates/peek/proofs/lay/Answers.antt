use Rattle.peek.proofs.EditLemmas.{put_part, cut_part}
use Rattle.peek.proofs.lay.Goals as goal

pub returns-in-Put : goal.returns-in-Put
returns-in-Put c file was =
    let it = c.put.ensures in
    rw (c.in-Put.is, ← c.as_slice.ensures.value)
    (put_part file c.in-Put.from c.as_slice.result.now c.args.at c.args.buf.now c.put.new.buf c.put.auto.buf was
    it.written it.below it.above)

pub returns-in-Cut : goal.returns-in-Cut
returns-in-Cut c file was =
    rw c.in-Cut.is (cut_part file c.in-Cut.len c.args.at c.args.buf.now c.cut.new.buf c.cut.auto.buf was
    c.cut.ensures.below c.cut.ensures.past)
