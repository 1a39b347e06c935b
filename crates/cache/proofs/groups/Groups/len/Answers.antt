use Rattle.std.proofs.Common.{◌≤◌, ◌∙◌, sym, ap, subst}
use Rattle.std.specs.FinMap as map
use Rattle.world.proofs.MapsTexts.{len_text}
use Rattle.cache.specs.Weights.{most_groups}
use Rattle.cache.proofs.groups.Groups.len.Goals as goal

pub returns-clause-len : goal.returns-clause-len
returns-clause-len c = c.len.ensures.len ∙ sym (len_text c.self.inside.shelves c.len.ensures.ordered)
    ∙ ap map.len c.self.view_is

pub returns-clause-at_most : goal.returns-clause-at_most
returns-clause-at_most c =
    let same = c.len.ensures.len ∙ sym (len_text c.self.inside.shelves c.len.ensures.ordered) in
    subst (λ n. n ≤ most_groups) (sym same) c.self.invariant
