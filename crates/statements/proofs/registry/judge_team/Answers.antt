use Rattle.std.proofs.Common.{◌≡◌, false, true, is_some, refl, sym, ap, ◌∙◌}
use Rattle.std.specs.FinMap as map
use Rattle.sqlite.specs.Held.{state}
use Rattle.tables.proofs.FailureLemmas.{was_clean}
use Rattle.statements.proofs.CallLemmas.{spares_then}
use Rattle.statements.proofs.registry.judge_team.Goals as goal

pub returns-then-is_some-clause-answer : goal.returns-then-is_some-clause-answer
returns-then-is_some-clause-answer g c clean w stands =
    let h = c.in_ok-find_shelf.ensures.answer clean w stands in
    let taken : map.contains_key w.shelves c.args.name.now ≡ true = sym (ap is_some h.2)
    ∙ (sym c.is_some.ensures ∙ c.if-is_some.true) in
    (h.1, rw (c.requires, taken) refl)

pub returns-in_default-clause-answer : goal.returns-in_default-clause-answer
returns-in_default-clause-answer g c clean w stands =
    let h = c.in_ok-find_shelf.ensures.answer clean w stands in
    let free : map.contains_key w.shelves c.args.name.now ≡ false = sym (ap is_some h.2)
    ∙ (sym c.is_some.ensures ∙ c.if-is_some.false) in
    (h.1, rw (c.requires, free, c.in_default.is) refl)

pub returns-in_err-is_group-clause-spares : goal.returns-in_err-is_group-clause-spares
returns-in_err-is_group-clause-spares g c = spares_then _ _ _ c.find_shelf.ensures.spares c.is_group.ensures.spares

pub returns-then-not-branch-clause-spares : goal.returns-then-not-branch-clause-spares
returns-then-not-branch-clause-spares g c = spares_then _ _ _ c.find_shelf.ensures.spares c.is_group.ensures.spares

pub returns-then-not-branch-clause-answer : goal.returns-then-not-branch-clause-answer
returns-then-not-branch-clause-answer g c clean w stands =
    let mid = state g.S.Store c.find_shelf.new.conn in
    let new = state g.S.Store c.is_group.new.conn in
    let h = c.in_ok-find_shelf.ensures.answer (was_clean mid new c.is_group.ensures.spares.clean clean) w stands in
    let k = c.in_ok-is_group.ensures.answer clean w (c.find_shelf.ensures.spares.stays w stands) in
    let free : map.contains_key w.shelves c.args.name.now ≡ false = sym (ap is_some h.2)
    ∙ (sym c.is_some.ensures ∙ c.if-is_some.false) in
    (k.0, rw (c.requires, free, c.in-Some.is, sym k.1, c.if-not-branch.true) refl)

pub returns-clause-spares : goal.returns-clause-spares
returns-clause-spares g c = spares_then _ _ _ c.find_shelf.ensures.spares c.is_group.ensures.spares

pub returns-clause-answer : goal.returns-clause-answer
returns-clause-answer g c clean w stands =
    let mid = state g.S.Store c.find_shelf.new.conn in
    let new = state g.S.Store c.is_group.new.conn in
    let h = c.in_ok-find_shelf.ensures.answer (was_clean mid new c.is_group.ensures.spares.clean clean) w stands in
    let k = c.in_ok-is_group.ensures.answer clean w (c.find_shelf.ensures.spares.stays w stands) in
    let free : map.contains_key w.shelves c.args.name.now ≡ false = sym (ap is_some h.2)
    ∙ (sym c.is_some.ensures ∙ c.if-is_some.false) in
    (k.0, rw (c.requires, free, c.in-Some.is, sym k.1, c.if-not-branch.false) refl)
