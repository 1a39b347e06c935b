use Rattle.std.proofs.Common.{◌≡◌, true, false, not, is_some, sym, ap, subst, ◌∙◌}
use Rattle.std.specs.FinMap as map
use Rattle.sqlite.specs.Held.{state}
use Rattle.statements.specs.Calls.{ChangesAt, Changes}
use Rattle.statements.specs.Views.{with_keys_revoked}
use Rattle.tables.proofs.FailureLemmas.{was_clean}
use Rattle.statements.proofs.ChangeLemmas.{spared, refused, spares_changes, not_ok}
use Rattle.statements.proofs.RevokeLemmas.{no_shelf_same, shelf_emptied}
use Rattle.statements.proofs.revoke.revoke_keys.Goals as goal

pub returns-in_err-find_shelf-clause-changes : goal.returns-in_err-find_shelf-clause-changes
returns-in_err-find_shelf-clause-changes g c =
    let old = state g.S.Store c.args.conn.now in
    let new = state g.S.Store c.find_shelf.new.conn in
    let next = with_keys_revoked c.args.shelf.now in
    subst (λ b. Changes old new b next) (sym (not_ok c.from_residual.result c.from_residual.ensures.0))
    (spared old new next c.find_shelf.ensures.spares)

pub returns-then-is_none-clause-changes : goal.returns-then-is_none-clause-changes
returns-then-is_none-clause-changes g c =
    let old = state g.S.Store c.args.conn.now in
    let new = state g.S.Store c.find_shelf.new.conn in
    let shelf = c.args.shelf.now in
    refused old new (with_keys_revoked shelf) (g.met.S.Store.settled c.find_shelf.new.conn.store)
    c.find_shelf.ensures.spares
    (λ clean w stands.
    let h = c.in_ok-find_shelf.ensures.answer clean w stands in
    let free : map.contains_key w.shelves shelf ≡ false = sym (ap is_some h.2)
    ∙ (c.is_none.ensures ∙ ap not c.if-is_none.true) in
    (h.1, no_shelf_same w shelf free))

pub returns-clause-changes : goal.returns-clause-changes
returns-clause-changes g c =
    let old = state g.S.Store c.args.conn.now in
    let mid = state g.S.Store c.find_shelf.new.conn in
    let new = state g.S.Store c.delete_keys.new.conn in
    let shelf = c.args.shelf.now in
    spares_changes old mid new true (with_keys_revoked shelf) c.find_shelf.ensures.spares c.delete_keys.ensures.clean
    (λ w clean stands.
    let h = c.in_ok-find_shelf.ensures.answer (was_clean mid new c.delete_keys.ensures.clean clean) w stands in
    let there : map.contains_key w.shelves shelf ≡ true = sym (ap is_some h.2)
    ∙ (c.is_none.ensures ∙ ap not c.if-is_none.false) in
    subst (ChangesAt mid new true w) (sym (shelf_emptied w shelf there))
    (c.in_ok-delete_keys.ensures.changes (λ _. h.1) w))

pub returns-in_err-delete_keys-clause-changes : goal.returns-in_err-delete_keys-clause-changes
returns-in_err-delete_keys-clause-changes g c =
    let old = state g.S.Store c.args.conn.now in
    let mid = state g.S.Store c.find_shelf.new.conn in
    let new = state g.S.Store c.delete_keys.new.conn in
    let shelf = c.args.shelf.now in
    subst (λ b. Changes old new b (with_keys_revoked shelf))
    (sym (not_ok c.from_residual-in_err-delete_keys.result c.from_residual-in_err-delete_keys.ensures.0))
    (spares_changes old mid new false (with_keys_revoked shelf) c.find_shelf.ensures.spares c.delete_keys.ensures.clean
    (λ w clean stands.
    let h = c.in_ok-find_shelf.ensures.answer (was_clean mid new c.delete_keys.ensures.clean clean) w stands in
    let there : map.contains_key w.shelves shelf ≡ true = sym (ap is_some h.2)
    ∙ (c.is_none.ensures ∙ ap not c.if-is_none.false) in
    subst (ChangesAt mid new false w) (sym (shelf_emptied w shelf there))
    (c.in_err-delete_keys.ensures.changes (λ _. h.1) w)))
