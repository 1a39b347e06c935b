use Rattle.std.proofs.Common.{◌-◌, inl, arith}
use Rattle.std.proofs.lemmas.Result.{err_from_is_err_and}
use Rattle.engine.proofs.CausesLemmas.{asks_none, asks_read, asks_failed}
use Rattle.engine.proofs.NextLemmas.{none_read, taken_comes, end_comes, more_read, read_fails}
use Rattle.engine.proofs.next.next_message.Goals as goal

pub returns-in-Some-clause-comes : goal.returns-in-Some-clause-comes
returns-in-Some-clause-comes g c =
    taken_comes _ _ _ _ _ _ c.loop-next.invariant.0 c.take.new.framer c.in-Some.next c.in-Some.ensures

pub returns-in-Ends-clause-comes : goal.returns-in-Ends-clause-comes
returns-in-Ends-clause-comes g c = end_comes
    _ _ _ _ _ _ c.loop-next.invariant.0 (g.R.Hear.account c.read_more.new.reader) c.read_more.new.framer
    c.in-Ends.closing c.loop-next.reads
    (rw (c.in-Ends.is, c.in_default.ensures.1) at c.in_ok-closing.ensures.on)

pub loop-next-init : goal.loop-next-init
loop-next-init g c =
    (none_read _ _ _ c.requires, asks_none _ _ (g.R.Hear.reads c.args.reader.now), omega arith, omega arith)

pub loop-next-preserved : goal.loop-next-preserved
loop-next-preserved g c =
    let (far, asked, spent, later) = c.loop-next.invariant in
    let read = c.in_ok-closing.ensures in (
      more_read _ _ _ _ _ _ far (g.R.Hear.account c.read_more.new.reader) c.read_more.new.framer
          (c.loop-next.reads - 1)
          (omega (arith, c.if-reads-eq0.false)) (rw (c.in_default-2.is, c.in_default.ensures.1) at read.on)
          (rw c.in_default.ensures.1 at read.few),
      asks_read _ _ _ _ _ _ _ far c.in_default.ensures.0
          (g.R.Hear.reads c.args.reader.now) (g.R.Hear.reads c.loop-next.reader)
          (g.R.Hear.reads c.read_more.new.reader) read.last,
      omega (arith, spent, read.begun, c.if-reads-eq0.false),
      omega (arith, later, read.fails),
    )

pub returns-in-Ends-clause-asks : goal.returns-in-Ends-clause-asks
returns-in-Ends-clause-asks g c =
    asks_read _ _ _ _ _ _ _ c.loop-next.invariant.0 c.in_default.ensures.0
    (g.R.Hear.reads c.args.reader.now) (g.R.Hear.reads c.loop-next.reader) (g.R.Hear.reads c.read_more.new.reader)
    c.in_ok-closing.ensures.last

pub returns-in_err-closing-clause-asks : goal.returns-in_err-closing-clause-asks
returns-in_err-closing-clause-asks g c =
    asks_failed _ _ _ _ _ _ _ c.loop-next.invariant.0 c.in_default.ensures.0
    (g.R.Hear.reads c.args.reader.now) (g.R.Hear.reads c.loop-next.reader) (g.R.Hear.reads c.read_more.new.reader)
    c.loop-next.invariant.1
    c.in_err-closing.ensures.none c.in_err-closing.ensures.on.1

pub returns-in_err-closing-clause-cause : goal.returns-in_err-closing-clause-cause
returns-in_err-closing-clause-cause g c =
    let returned = err_from_is_err_and c.from_residual.result c.from_residual.ensures.1 in
    rw (returned.1) (inl (omega (arith, c.loop-next.invariant.3, c.in_err-closing.ensures.fails)))

pub returns-in_err-closing-clause-comes : goal.returns-in_err-closing-clause-comes
returns-in_err-closing-clause-comes g c =
    let returned = err_from_is_err_and c.from_residual.result c.from_residual.ensures.1 in
    rw (returned.1, returned.2)
    (read_fails _ _ _ _ _ _ c.loop-next.invariant.0 _ c.read_more.new.framer _ (c.loop-next.reads - 1)
    c.in_default.ensures.0 c.in_err-closing.ensures.on)
