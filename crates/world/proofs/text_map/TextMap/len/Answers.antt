use Rattle.std.proofs.Common.{◌∙◌, sym, ap}
use Rattle.std.specs.FinMap as map
use Rattle.world.proofs.MapsTexts.{len_text}
use Rattle.world.proofs.text_map.TextMap.len.Goals as goal

pub returns : goal.returns
returns g c = c.len.ensures.len ∙ sym (len_text c.self.inside.tree c.len.ensures.ordered) ∙ ap map.len c.self.view_is
