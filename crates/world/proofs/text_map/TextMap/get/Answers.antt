use Rattle.std.proofs.Common.{◌∙◌, sym, ap}
use Rattle.std.specs.FinMap as map
use Rattle.world.proofs.MapsTexts.{get_text}
use Rattle.world.proofs.text_map.TextMap.get.Goals as goal

pub returns : goal.returns
returns g c = c.get.ensures.value ∙ sym (get_text c.self.inside.tree c.args.key.now)
    ∙ ap (λ m. map.get m c.args.key.now) c.self.view_is
