use Rattle.std.proofs.Common.{◌∙◌, sym}
use Rattle.world.proofs.MapsSets.{none_there, none_left}
use Rattle.world.proofs.text_set.TextSet.is_empty.Goals as goal

pub returns : goal.returns
returns c = (
  λ is. sym c.self.view_is ∙ none_left c.self.inside.tree.keys (c.is_empty.ensures.0 is),
  λ e. c.is_empty.ensures.1 (none_there c.self.inside.tree.keys (c.self.view_is ∙ e)),
)
