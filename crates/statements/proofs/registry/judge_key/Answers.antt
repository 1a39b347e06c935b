use Rattle.std.proofs.Common.{◌≡◌, false, true, not, is_some, refl, sym, ap, ◌∙◌}
use Rattle.std.specs.FinMap as map
use Rattle.sqlite.specs.Held.{state}
use Rattle.tables.proofs.FailureLemmas.{was_clean}
use Rattle.statements.proofs.CallLemmas.{spares_then}
use Rattle.statements.proofs.registry.judge_key.Goals as goal

pub returns-then-is_none-clause-answer : goal.returns-then-is_none-clause-answer
returns-then-is_none-clause-answer g c clean w stands =
    let h = c.in_ok-find_shelf.ensures.answer clean w stands in
    let none : map.contains_key w.shelves c.args.shelf.now ≡ false = sym (ap is_some h.2)
    ∙ (c.is_none.ensures ∙ ap not c.if-is_none.true) in
    (h.1, rw (c.requires, none) refl)

pub returns-in_err-find_key-clause-spares : goal.returns-in_err-find_key-clause-spares
returns-in_err-find_key-clause-spares g c = spares_then _ _ _ c.find_shelf.ensures.spares c.find_key.ensures.spares

pub returns-then-is_some-clause-spares : goal.returns-then-is_some-clause-spares
returns-then-is_some-clause-spares g c = spares_then _ _ _ c.find_shelf.ensures.spares c.find_key.ensures.spares

pub returns-then-is_some-clause-answer : goal.returns-then-is_some-clause-answer
returns-then-is_some-clause-answer g c clean w stands =
    let mid = state g.S.Store c.find_shelf.new.conn in
    let new = state g.S.Store c.find_key.new.conn in
    let h = c.in_ok-find_shelf.ensures.answer (was_clean mid new c.find_key.ensures.spares.clean clean) w stands in
    let k = c.in_ok-find_key.ensures.answer clean w (c.find_shelf.ensures.spares.stays w stands) in
    let taken : map.contains_key w.keys c.args.token.now ≡ true = sym (ap is_some k.2)
    ∙ (sym c.is_some.ensures ∙ c.if-is_some.true) in
    let there : map.contains_key w.shelves c.args.shelf.now ≡ true = sym (ap is_some h.2)
    ∙ (c.is_none.ensures ∙ ap not c.if-is_none.false) in
    (k.1, rw (c.requires, there, taken) refl)

pub returns-clause-spares : goal.returns-clause-spares
returns-clause-spares g c = spares_then _ _ _ c.find_shelf.ensures.spares c.find_key.ensures.spares

pub returns-clause-answer : goal.returns-clause-answer
returns-clause-answer g c clean w stands =
    let mid = state g.S.Store c.find_shelf.new.conn in
    let new = state g.S.Store c.find_key.new.conn in
    let h = c.in_ok-find_shelf.ensures.answer (was_clean mid new c.find_key.ensures.spares.clean clean) w stands in
    let k = c.in_ok-find_key.ensures.answer clean w (c.find_shelf.ensures.spares.stays w stands) in
    let free : map.contains_key w.keys c.args.token.now ≡ false = sym (ap is_some k.2)
    ∙ (sym c.is_some.ensures ∙ c.if-is_some.false) in
    let there : map.contains_key w.shelves c.args.shelf.now ≡ true = sym (ap is_some h.2)
    ∙ (c.is_none.ensures ∙ ap not c.if-is_none.false) in
    (k.1, rw (c.requires, there, free) refl)
