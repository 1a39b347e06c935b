use Rattle.std.proofs.Common.{arith}
use Rattle.std.proofs.lemmas.Result.{err_from_is_err_and}
use Rattle.engine.specs.Causes.{most_reads}
use Rattle.engine.proofs.CausesLemmas.{caused_later, caused_unflushed}
use Rattle.engine.proofs.ServedLemmas.{so_far_none, went_on, closed, failed}
use Rattle.engine.proofs.answer.answer_each.Goals as goal

pub loop-session-init : goal.loop-session-init
loop-session-init g c = (
  rw c.new-session.ensures.framer (so_far_none _ _ _),
  rw c.new-session.ensures.reads (omega arith),
  omega arith,
  omega arith,
)

pub answer_next-requires : goal.answer_next-requires
answer_next-requires g c = c.loop-session.invariant.0.sound

pub returns-in_err-answer_next-clause-heard : goal.returns-in_err-answer_next-clause-heard
returns-in_err-answer_next-clause-heard g c =
    let returned = err_from_is_err_and c.from_residual.result c.from_residual.ensures.1 in
    rw (returned.1, returned.2)
    (failed _ _ _ _ _ _ _ c.loop-session.invariant.0 _ _ _ c.answer_next.new.self.framer _ c.in_err-answer_next.ensures.answers)

pub returns-in_err-answer_next-clause-cause : goal.returns-in_err-answer_next-clause-cause
returns-in_err-answer_next-clause-cause g c =
    let returned = err_from_is_err_and c.from_residual.result c.from_residual.ensures.1 in
    let (far, spent, reads, writes) = c.loop-session.invariant in
    rw (returned.1, returned.2) (caused_later most_reads c.loop-session.session.reads
    (g.R.Hear.reads c.args.reader.now) (g.R.Hear.reads c.loop-session.reader) (g.R.Hear.reads c.answer_next.new.reader)
    (g.W.Tell.writes c.args.writer.now) (g.W.Tell.writes c.loop-session.writer) (g.W.Tell.writes c.answer_next.new.writer) _
    spent reads writes c.in_err-answer_next.ensures.cause)

pub returns-in-Closed-clause-heard : goal.returns-in-Closed-clause-heard
returns-in-Closed-clause-heard g c = closed
    _ _ _ _ _ _ _ c.loop-session.invariant.0 _ _ _ c.answer_next.new.self.framer c.in-Closed.field-0 _ _
    (rw c.in-Closed.is at c.in_ok-answer_next.ensures.answers)
    c.flush.ensures.bytes c.flush.ensures.which

pub returns-in-Closed-clause-cause : goal.returns-in-Closed-clause-cause
returns-in-Closed-clause-cause g c =
    let (far, spent, reads, writes) = c.loop-session.invariant in
    caused_unflushed most_reads (g.R.Hear.reads c.args.reader.now) (g.R.Hear.reads c.answer_next.new.reader)
    (g.W.Tell.writes c.args.writer.now) (g.W.Tell.writes c.answer_next.new.writer) (g.W.Tell.writes c.flush.new.writer) _
    (omega (arith, writes, c.in_ok-answer_next.ensures.later_writes)) c.flush.ensures.which c.flush.ensures.fails

pub loop-session-preserved : goal.loop-session-preserved
loop-session-preserved g c =
    let (far, spent, reads, writes) = c.loop-session.invariant in
    let handled = c.in_ok-answer_next.ensures in (
      went_on _ _ _ _ _ _ _ far _ _ _ c.answer_next.new.self.framer c.in_default.field-0 (rw c.in_default.is at handled.answers),
      omega (arith, spent, handled.spent),
      omega (arith, reads, handled.later_reads),
      omega (arith, writes, handled.later_writes),
    )

pub loop-session-smaller : goal.loop-session-smaller
loop-session-smaller g c = (rw c.in_default.is at c.in_ok-answer_next.ensures.falls) tt
