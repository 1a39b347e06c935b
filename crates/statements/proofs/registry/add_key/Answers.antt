use Rattle.std.proofs.Common.{◌≡◌, false, true, sym, subst, ◌∙◌, rules}
use Rattle.sqlite.specs.Held.{state}
use Rattle.world.specs.declared.registry.RegistryReply.TheVariants.{Done}
use Rattle.world.specs.Registry.{key_added}
use Rattle.statements.specs.Calls.{ChangesAt, Changes}
use Rattle.statements.specs.Views.{with_key_added}
use Rattle.tables.proofs.FailureLemmas.{was_clean}
use Rattle.statements.proofs.AddKeyLemmas.{added_same, added_new, unused_from}
use Rattle.statements.proofs.ChangeLemmas.{spared, refused, spares_changes, not_ok}
use Rattle.statements.proofs.registry.add_key.Goals as goal

pub returns-in_err-registered-clause-changes : goal.returns-in_err-registered-clause-changes
returns-in_err-registered-clause-changes g c =
    let old = state g.S.Store c.args.conn.now in
    let new = state g.S.Store c.judge_key.new.conn in
    let next = with_key_added c.args.shelf.now c.args.token.now c.args.right in
    subst (λ b. Changes old new b next) (sym (not_ok c.from_residual.result c.from_residual.ensures.0))
    (spared old new next c.judge_key.ensures.spares)

pub returns-else-eq-clause-changes : goal.returns-else-eq-clause-changes
returns-else-eq-clause-changes g c =
    let old = state g.S.Store c.args.conn.now in
    let new = state g.S.Store c.judge_key.new.conn in
    let shelf = c.args.shelf.now in
    let token = c.args.token.now in
    let other : c.in_ok-registered.registered ≡ Done → ⊥ = search rules in
    refused old new (with_key_added shelf token c.args.right) (g.met.S.Store.settled c.judge_key.new.conn.store)
    c.judge_key.ensures.spares
    (λ clean w stands. let h = c.in_ok-registered.ensures.answer clean w stands in
    (h.0, added_same w shelf token c.args.right c.in_ok-registered.registered h.1 other))

pub returns-in_ok-insert_key-clause-changes : goal.returns-in_ok-insert_key-clause-changes
returns-in_ok-insert_key-clause-changes g c =
    let old = state g.S.Store c.args.conn.now in
    let mid = state g.S.Store c.judge_key.new.conn in
    let new = state g.S.Store c.insert_key.new.conn in
    let shelf = c.args.shelf.now in
    let token = c.args.token.now in
    let is : c.in_ok-registered.registered ≡ Done = search rules in
    spares_changes old mid new true (with_key_added shelf token c.args.right) c.judge_key.ensures.spares
    c.insert_key.ensures.clean (λ w clean stands.
    let h = c.in_ok-registered.ensures.answer (was_clean mid new c.insert_key.ensures.clean clean) w stands in
    let free : key_added w shelf token ≡ Done = sym h.1 ∙ is in
    subst (ChangesAt mid new true w) (sym (added_new w shelf token c.args.right free))
    (c.in_ok-insert_key.ensures.changes (λ _. h.0) w (unused_from w shelf token c.args.right free)))

pub returns-in_err-insert_key-clause-changes : goal.returns-in_err-insert_key-clause-changes
returns-in_err-insert_key-clause-changes g c =
    let old = state g.S.Store c.args.conn.now in
    let mid = state g.S.Store c.judge_key.new.conn in
    let new = state g.S.Store c.insert_key.new.conn in
    let shelf = c.args.shelf.now in
    let token = c.args.token.now in
    let is : c.in_ok-registered.registered ≡ Done = search rules in
    subst (λ b. Changes old new b (with_key_added shelf token c.args.right))
    (sym (not_ok c.from_residual-in_err-insert_key.result c.from_residual-in_err-insert_key.ensures.0))
    (spares_changes old mid new false (with_key_added shelf token c.args.right) c.judge_key.ensures.spares
    c.insert_key.ensures.clean (λ w clean stands.
    let h = c.in_ok-registered.ensures.answer (was_clean mid new c.insert_key.ensures.clean clean) w stands in
    let free : key_added w shelf token ≡ Done = sym h.1 ∙ is in
    subst (ChangesAt mid new false w) (sym (added_new w shelf token c.args.right free))
    (c.in_err-insert_key.ensures.changes (λ _. h.0) w (unused_from w shelf token c.args.right free))))
