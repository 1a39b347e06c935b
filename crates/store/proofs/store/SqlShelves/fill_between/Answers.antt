use Rattle.std.proofs.Common.{refl, ◌∙◌, is_ok}
use Rattle.sqlite.specs.Held.{state}
use Rattle.setup.specs.Parts.{registry_of}
use Rattle.statements.proofs.CallLemmas.{spares_then}
use Rattle.statements.proofs.GoingLemmas.{goes_on_then}
use Rattle.tables.proofs.FailureLemmas.{was_clean}
use Rattle.store.proofs.BetweenLemmas.{begins_walk, only_read}
use Rattle.store.proofs.store.SqlShelves.fill_between.Goals as goal

pub returns-in_err-copy_registry-clause-went : goal.returns-in_err-copy_registry-clause-went
returns-in_err-copy_registry-clause-went g c =
    g.met.B.Between.rests c.args.between.now c.args.self.now _
    (only_read _ _ c.args.self.now.kept _ c.args.self.now.failures _ c.copy_registry.ensures.reads refl refl)

pub returns-in_err-entries-clause-went : goal.returns-in_err-entries-clause-went
returns-in_err-entries-clause-went g c =
    g.met.B.Between.rests c.args.between.now c.args.self.now _
    (only_read _ _ c.args.self.now.kept _ c.args.self.now.failures _
    (spares_then _ _ _ c.copy_registry.ensures.reads c.entries_kept.ensures.spares) c.entries_kept.ensures.same.0
    c.entries_kept.ensures.same.1)

pub returns-clause-went : goal.returns-clause-went
returns-clause-went g c =
    g.met.B.Between.goes_on c.args.between.now c.args.between.now c.copy_entries.new.between c.args.self.now
    c.entries_kept.new.self c.copy_entries.new.self
    (g.met.B.Between.rests c.args.between.now c.args.self.now c.entries_kept.new.self
    (only_read _ _ c.args.self.now.kept _ c.args.self.now.failures _
    (spares_then _ _ _ c.copy_registry.ensures.reads c.in_ok-entries.ensures.spares) c.in_ok-entries.ensures.same.0
    c.in_ok-entries.ensures.same.1))
    c.copy_entries.ensures.went

pub returns-clause-goes_on : goal.returns-clause-goes_on
returns-clause-goes_on g c =
    goes_on_then (state g.F.Store c.args.tx.now.conn.now) (state g.F.Store c.copy_registry.new.tx.conn.now)
    (state g.F.Store c.copy_entries.new.tx.conn.now) (is_ok c.copy_entries.result) c.in_ok-copy_registry.ensures.goes_on
    c.copy_entries.ensures.goes_on

pub returns-clause-copies : goal.returns-clause-copies
returns-clause-copies g c clean good w stands writing all =
    let first = state g.S.Store c.copy_registry.new.source in
    let counted = state g.S.Store c.entries_kept.new.self.conn in
    let begun = state g.F.Store c.copy_registry.new.tx.conn.now in
    let end = state g.F.Store c.copy_entries.new.tx.conn.now in
    let late = c.copy_entries.ensures.honest clean in
    let early = was_clean first counted c.in_ok-entries.ensures.spares.clean late in
    let put = c.in_ok-copy_registry.ensures.copies early
    (was_clean begun end c.copy_entries.ensures.goes_on.survives.clean good) w stands.0 writing in
    let number = c.in_ok-entries.ensures.answer late w
    ((c.copy_registry.ensures.reads.stays w stands.0.0, stands.0.1), stands.1) in
    c.copy_entries.ensures.copies clean good w (
      (c.in_ok-entries.ensures.spares.stays w (c.copy_registry.ensures.reads.stays w stands.0.0), stands.0.1),
      rw c.in_ok-entries.ensures.same.0 stands.1,
    )
    (begins_walk w (registry_of w) c.new.result begun refl refl refl (c.new.ensures.left ∙ number) c.new.ensures.part
    put) all
