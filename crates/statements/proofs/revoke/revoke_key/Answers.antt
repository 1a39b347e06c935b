use Rattle.std.proofs.Common.{◌≡◌, true, false, not, is_some, sym, ap, subst, ◌∙◌}
use Rattle.std.specs.FinMap as map
use Rattle.sqlite.specs.Held.{state}
use Rattle.statements.specs.Calls.{ChangesAt, Changes}
use Rattle.statements.specs.Views.{with_key_revoked}
use Rattle.tables.proofs.FailureLemmas.{was_clean}
use Rattle.statements.proofs.ChangeLemmas.{spared, refused, spares_changes, not_ok}
use Rattle.statements.proofs.RevokeLemmas.{unknown_same, known_gone}
use Rattle.statements.proofs.revoke.revoke_key.Goals as goal

pub returns-in_err-find_key-clause-changes : goal.returns-in_err-find_key-clause-changes
returns-in_err-find_key-clause-changes g c =
    let old = state g.S.Store c.args.conn.now in
    let new = state g.S.Store c.find_key.new.conn in
    let next = with_key_revoked c.args.token.now in
    subst (λ b. Changes old new b next) (sym (not_ok c.from_residual.result c.from_residual.ensures.0))
    (spared old new next c.find_key.ensures.spares)

pub returns-then-is_none-clause-changes : goal.returns-then-is_none-clause-changes
returns-then-is_none-clause-changes g c =
    let old = state g.S.Store c.args.conn.now in
    let new = state g.S.Store c.find_key.new.conn in
    let token = c.args.token.now in
    refused old new (with_key_revoked token) (g.met.S.Store.settled c.find_key.new.conn.store) c.find_key.ensures.spares
    (λ clean w stands.
    let h = c.in_ok-find_key.ensures.answer clean w stands in
    let free : map.contains_key w.keys token ≡ false = sym (ap is_some h.2)
    ∙ (c.is_none.ensures ∙ ap not c.if-is_none.true) in
    (h.1, unknown_same w token free))

pub returns-clause-changes : goal.returns-clause-changes
returns-clause-changes g c =
    let old = state g.S.Store c.args.conn.now in
    let mid = state g.S.Store c.find_key.new.conn in
    let new = state g.S.Store c.delete_key.new.conn in
    let token = c.args.token.now in
    spares_changes old mid new true (with_key_revoked token) c.find_key.ensures.spares c.delete_key.ensures.clean
    (λ w clean stands.
    let h = c.in_ok-find_key.ensures.answer (was_clean mid new c.delete_key.ensures.clean clean) w stands in
    let there : map.contains_key w.keys token ≡ true = sym (ap is_some h.2)
    ∙ (c.is_none.ensures ∙ ap not c.if-is_none.false) in
    subst (ChangesAt mid new true w) (sym (known_gone w token there)) (c.in_ok-delete_key.ensures.changes (λ _. h.1) w))

pub returns-in_err-delete_key-clause-changes : goal.returns-in_err-delete_key-clause-changes
returns-in_err-delete_key-clause-changes g c =
    let old = state g.S.Store c.args.conn.now in
    let mid = state g.S.Store c.find_key.new.conn in
    let new = state g.S.Store c.delete_key.new.conn in
    let token = c.args.token.now in
    subst (λ b. Changes old new b (with_key_revoked token))
    (sym (not_ok c.from_residual-in_err-delete_key.result c.from_residual-in_err-delete_key.ensures.0))
    (spares_changes old mid new false (with_key_revoked token) c.find_key.ensures.spares c.delete_key.ensures.clean
    (λ w clean stands.
    let h = c.in_ok-find_key.ensures.answer (was_clean mid new c.delete_key.ensures.clean clean) w stands in
    let there : map.contains_key w.keys token ≡ true = sym (ap is_some h.2)
    ∙ (c.is_none.ensures ∙ ap not c.if-is_none.false) in
    subst (ChangesAt mid new false w) (sym (known_gone w token there))
    (c.in_err-delete_key.ensures.changes (λ _. h.1) w)))
