use Rattle.std.proofs.Common.{true, false, ◌∙◌}
use Rattle.sqlite.specs.Held.{state}
use Rattle.tables.proofs.FailureLemmas.{was_clean}
use Rattle.statements.proofs.CallLemmas.{spares_then}
use Rattle.statements.proofs.ExtractLemmas.{spares_itself}
use Rattle.statements.proofs.GoingLemmas.{goes_on_itself, goes_on_or_ends, goes_on_then}
use Rattle.slices.proofs.slice.copy_slice.Goals as goal

pub returns-then-not-begin-clause-reads : goal.returns-then-not-begin-clause-reads
returns-then-not-begin-clause-reads g c = spares_itself (state g.S.Store c.args.source.now)

pub returns-then-not-begin-clause-goes_on : goal.returns-then-not-begin-clause-goes_on
returns-then-not-begin-clause-goes_on g c =
    let s = state g.F.Store c.args.tx.now.conn.now in
    goes_on_or_ends s s false (goes_on_itself s)

pub loop-init : goal.loop-init
loop-init g c =
    let first = c.in_ok-at.ensures in (first.reads, first.open, first.same_reference, first.goes_on, first.copies)

pub loop-preserved : goal.loop-preserved
loop-preserved g c =
    let so_far = c.loop.invariant in
    let step = c.in_ok-at-2.ensures in
    let mid = state g.S.Store c.loop.source in
    let end = state g.S.Store c.copy_next-in-loop.new.source in
    let at = state g.F.Store c.loop.tx.conn.now in
    let reached = state g.F.Store c.copy_next-in-loop.new.tx.conn.now in (
      spares_then _ _ _ so_far.0 step.reads,
      λ clean w stands. step.open clean w (so_far.0.stays w stands),
      step.same_reference ∙ so_far.2,
      goes_on_then (state g.F.Store c.args.tx.now.conn.now) at reached true so_far.3 step.goes_on,
      λ clean good w later stands since holds.
          step.copies clean good w later (so_far.0.stays later stands) since
          (so_far.4 (was_clean mid end step.reads.clean clean) (was_clean at reached step.goes_on.survives.clean good) w
          later stands since holds),
    )

pub returns-in_err-at-2-clause-reads : goal.returns-in_err-at-2-clause-reads
returns-in_err-at-2-clause-reads g c = spares_then _ _ _ c.loop.invariant.0 c.in_err-at-2.ensures.reads
