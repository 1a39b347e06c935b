use Rattle.std.proofs.Common.{◌≡◌, false, true, sym, subst, ◌∙◌, rules}
use Rattle.sqlite.specs.Held.{state}
use Rattle.world.specs.declared.registry.RegistryReply.TheVariants.{Done}
use Rattle.world.specs.Registry.{group_added}
use Rattle.statements.specs.Calls.{ChangesAt, Changes}
use Rattle.statements.specs.Views.{with_group_added}
use Rattle.tables.proofs.FailureLemmas.{was_clean}
use Rattle.statements.proofs.AddTeamLemmas.{group_same, group_new, group_free}
use Rattle.statements.proofs.ChangeLemmas.{spared, refused, spares_changes, not_ok}
use Rattle.statements.proofs.registry.add_group.Goals as goal

pub returns-in_err-registered-clause-changes : goal.returns-in_err-registered-clause-changes
returns-in_err-registered-clause-changes g c =
    let old = state g.S.Store c.args.conn.now in
    let new = state g.S.Store c.judge_group.new.conn in
    let next = with_group_added c.args.name.now in
    subst (λ b. Changes old new b next) (sym (not_ok c.from_residual.result c.from_residual.ensures.0))
    (spared old new next c.judge_group.ensures.spares)

pub returns-else-eq-clause-changes : goal.returns-else-eq-clause-changes
returns-else-eq-clause-changes g c =
    let old = state g.S.Store c.args.conn.now in
    let new = state g.S.Store c.judge_group.new.conn in
    let name = c.args.name.now in
    let other : c.in_ok-registered.registered ≡ Done → ⊥ = search rules in
    refused old new (with_group_added name) (g.met.S.Store.settled c.judge_group.new.conn.store)
    c.judge_group.ensures.spares
    (λ clean w stands. let h = c.in_ok-registered.ensures.answer clean w stands in
    (h.0, group_same w name c.in_ok-registered.registered h.1 other))

pub returns-in_ok-insert_shelf-clause-changes : goal.returns-in_ok-insert_shelf-clause-changes
returns-in_ok-insert_shelf-clause-changes g c =
    let old = state g.S.Store c.args.conn.now in
    let mid = state g.S.Store c.judge_group.new.conn in
    let new = state g.S.Store c.insert_shelf.new.conn in
    let name = c.args.name.now in
    let is : c.in_ok-registered.registered ≡ Done = search rules in
    spares_changes old mid new true (with_group_added name) c.judge_group.ensures.spares c.insert_shelf.ensures.clean
    (λ w clean stands.
    let h = c.in_ok-registered.ensures.answer (was_clean mid new c.insert_shelf.ensures.clean clean) w stands in
    let free : group_added w name ≡ Done = sym h.1 ∙ is in
    subst (ChangesAt mid new true w) (sym (group_new w name free))
    (c.in_ok-insert_shelf.ensures.changes (λ _. h.0) w (group_free w name free)))

pub returns-in_err-insert_shelf-clause-changes : goal.returns-in_err-insert_shelf-clause-changes
returns-in_err-insert_shelf-clause-changes g c =
    let old = state g.S.Store c.args.conn.now in
    let mid = state g.S.Store c.judge_group.new.conn in
    let new = state g.S.Store c.insert_shelf.new.conn in
    let name = c.args.name.now in
    let is : c.in_ok-registered.registered ≡ Done = search rules in
    subst (λ b. Changes old new b (with_group_added name))
    (sym (not_ok c.from_residual-in_err-insert_shelf.result c.from_residual-in_err-insert_shelf.ensures.0))
    (spares_changes old mid new false (with_group_added name) c.judge_group.ensures.spares c.insert_shelf.ensures.clean
    (λ w clean stands.
    let h = c.in_ok-registered.ensures.answer (was_clean mid new c.insert_shelf.ensures.clean clean) w stands in
    let free : group_added w name ≡ Done = sym h.1 ∙ is in
    subst (ChangesAt mid new false w) (sym (group_new w name free))
    (c.in_err-insert_shelf.ensures.changes (λ _. h.0) w (group_free w name free))))
