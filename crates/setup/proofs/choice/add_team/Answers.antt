use Rattle.std.proofs.Common.{◌∙◌, Some, sym, ap}
use Rattle.setup.proofs.choice.add_team.Goals as goal

pub returns-in_ok-with_parent_and_team-in-Some-Some-clause-answer : goal.returns-in_ok-with_parent_and_team-in-Some-Some-clause-answer
returns-in_ok-with_parent_and_team-in-Some-Some-clause-answer g c clean w stands =
    let found = c.in_ok-parent.ensures.answer clean w stands in
    let has = sym found.2 ∙ (c.in-Some-Some.is ∙ ap Some c.in-Some-Some.field-0-is) in
    (found.1, (c.in-Some-Some.parent, has, c.in_ok-with_parent_and_team-in-Some-Some.ensures))

pub returns-in-Some-None-clause-answer : goal.returns-in-Some-None-clause-answer
returns-in-Some-None-clause-answer g c clean w stands =
    let found = c.in_ok-parent.ensures.answer clean w stands in
    (found.1, λ team. let both = sym (c.in-Some-None.is ∙ ap Some c.in-Some-None.field-0-is) ∙ (found.2 ∙ team.1) in cc)

pub returns-in-None-clause-answer : goal.returns-in-None-clause-answer
returns-in-None-clause-answer g c clean w stands =
    let found = c.in_ok-parent.ensures.answer clean w stands in
    (found.1, λ team. let both = sym c.in-None.is ∙ (found.2 ∙ team.1) in cc)
