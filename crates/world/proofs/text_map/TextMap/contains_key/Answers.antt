use Rattle.std.proofs.Common.{◌∙◌, sym, ap}
use Rattle.std.specs.Prelude.{is_some}
use Rattle.std.specs.FinMap as map
use Rattle.world.proofs.MapsTexts.{get_text}
use Rattle.world.proofs.text_map.TextMap.contains_key.Goals as goal

pub returns : goal.returns
returns g c = c.contains_key.ensures
    ∙ ap is_some (sym (get_text c.self.inside.tree c.args.key.now) ∙ ap (λ m. map.get m c.args.key.now) c.self.view_is)
