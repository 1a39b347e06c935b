use Rattle.std.proofs.Common.{◌≡◌, false, true, is_some, refl, sym, ap, ◌∙◌}
use Rattle.std.specs.FinMap as map
use Rattle.statements.proofs.registry.judge_group.Goals as goal

pub returns-then-is_some-clause-answer : goal.returns-then-is_some-clause-answer
returns-then-is_some-clause-answer g c clean w stands =
    let h = c.in_ok-find_shelf.ensures.answer clean w stands in
    let taken : map.contains_key w.shelves c.args.name.now ≡ true = sym (ap is_some h.2)
    ∙ (sym c.is_some.ensures ∙ c.if-is_some.true) in
    (h.1, rw (c.requires, taken) refl)

pub returns-clause-answer : goal.returns-clause-answer
returns-clause-answer g c clean w stands =
    let h = c.in_ok-find_shelf.ensures.answer clean w stands in
    let free : map.contains_key w.shelves c.args.name.now ≡ false = sym (ap is_some h.2)
    ∙ (sym c.is_some.ensures ∙ c.if-is_some.false) in
    (h.1, rw (c.requires, free) refl)
