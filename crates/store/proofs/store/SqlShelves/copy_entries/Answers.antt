use Rattle.std.proofs.Common.{true, Option, IfSome, refl, subst, ◌∙◌}
use Rattle.sqlite.specs.Held.{state}
use Rattle.interleave.proofs.MeanwhileLemmas.{as_it_was}
use Rattle.slices.specs.declared.cursor.Cursor.{Cursor}
use Rattle.statements.proofs.GoingLemmas.{goes_on_itself, goes_on_then}
use Rattle.tables.proofs.FailureLemmas.{was_clean}
use Rattle.store.specs.Between.{HoldsIn}
use Rattle.store.specs.Shown.{shown_with}
use Rattle.store.proofs.BetweenLemmas.{done_is_whole, since_itself}
use Rattle.store.proofs.store.SqlShelves.copy_entries.Goals as goal

pub loop-init : goal.loop-init
loop-init g c = (
  g.met.B.Between.rests c.args.between.now c.args.self.now c.args.self.now (as_it_was _),
  λ clean. clean,
  refl,
  goes_on_itself (state g.F.Store c.args.tx.now.conn.now),
  λ clean good w stands holds. record {
    later = w;
    stands = stands;
    since = rw c.new-news.ensures (since_itself w);
    holds = holds;
  },
)

pub loop-preserved : goal.loop-preserved
loop-preserved g c =
    let so_far = c.loop.invariant in
    let step = c.in_ok-next.ensures in (
      g.met.B.Between.goes_on c.args.between.now c.loop.between c.copy_on.new.between c.args.self.now c.loop.self
          c.copy_on.new.self so_far.0 step.went,
      λ clean. so_far.1 (step.honest clean),
      step.same_reference ∙ so_far.2,
      goes_on_then (state g.F.Store c.args.tx.now.conn.now) (state g.F.Store c.loop.tx.conn.now)
          (state g.F.Store c.copy_on.new.tx.conn.now) true so_far.3 step.goes_on,
      λ clean good w stands holds.
          let was = so_far.4 (step.honest clean)
          (was_clean (state g.F.Store c.loop.tx.conn.now) (state g.F.Store c.copy_on.new.tx.conn.now)
          step.goes_on.survives.clean good) w stands holds in
          subst (λ (o : Option Cursor). IfSome o (λ there.
          HoldsIn (shown_with (state g.S.Store c.copy_on.new.self.conn) c.copy_on.new.self.kept
          c.copy_on.new.self.failures) w c.copy_on.new.news there (state g.F.Store c.copy_on.new.tx.conn.now)))
          c.in-Some.is (step.copies clean good w was),
    )

pub returns-then-is_done-clause-copies : goal.returns-then-is_done-clause-copies
returns-then-is_done-clause-copies g c clean good w stands holds all =
    let held = c.loop.invariant.4 clean good w stands holds in
    done_is_whole w c.loop.at (state g.F.Store c.loop.tx.conn.now) (c.is_done.ensures.0 c.if-is_done.true) held.holds
