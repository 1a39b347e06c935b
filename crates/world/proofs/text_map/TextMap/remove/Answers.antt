use Rattle.std.proofs.Common.{◌∙◌, sym, ap}
use Rattle.std.specs.FinMap as map
use Rattle.world.proofs.MapsTexts.{get_text, remove_text}
use Rattle.world.proofs.text_map.TextMap.remove.Goals as goal

pub returns-clause-value : goal.returns-clause-value
returns-clause-value g c = c.remove.ensures.value ∙ sym (get_text c.self.inside.tree c.args.key.now)
    ∙ ap (λ m. map.get m c.args.key.now) c.self.view_is

pub returns-clause-rest : goal.returns-clause-rest
returns-clause-rest g c =
    remove_text c.self.inside.tree c.remove.new.self c.args.key.now c.remove.ensures.updates
    ∙ ap (λ m. map.remove m c.args.key.now) c.self.view_is
