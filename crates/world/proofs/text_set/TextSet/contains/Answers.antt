use Rattle.std.proofs.Common.{◌∙◌, sym, ap}
use Rattle.std.specs.FinSet as set
use Rattle.world.proofs.MapsSets.{contains_as_set}
use Rattle.world.proofs.text_set.TextSet.contains.Goals as goal

pub returns : goal.returns
returns c = c.contains.ensures ∙ sym (contains_as_set c.self.inside.tree c.args.text.now)
    ∙ ap (λ s. set.contains s c.args.text.now) c.self.view_is
