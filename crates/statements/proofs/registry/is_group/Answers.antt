use Rattle.std.proofs.Common.{◌≡◌, not, bytes_eq, Some, None, sym, ap, ◌∙◌, rules}
use Rattle.std.specs.FinMap as map
use Rattle.world.specs.World.{common}
use Rattle.statements.proofs.registry.is_group.Goals as goal

pub returns-in-Some-None-clause-answer : goal.returns-in-Some-None-clause-answer
returns-in-Some-None-clause-answer g c clean w stands =
    let h = c.in_ok-find_shelf.ensures.answer clean w stands in
    let top : map.get w.shelves c.args.name.now ≡ Some None = sym h.2
    ∙ (c.in-Some-None.is ∙ ap Some c.in-Some-None.field-0-is) in
    let apart : c.ne.result ≡ not (bytes_eq c.args.name.now common) = search rules in
    (h.1, rw top apart)
