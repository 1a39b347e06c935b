use Rattle.std.proofs.Common.{◌∙◌, sym, ap}
use Rattle.std.specs.FinMap as map
use Rattle.world.proofs.MapsTexts.{get_text}
use Rattle.cache.proofs.groups.Groups.get.Goals as goal

pub returns : goal.returns
returns c = c.get.ensures.value ∙ sym (get_text c.self.inside.shelves c.args.shelf.now)
    ∙ ap (λ m. map.get m c.args.shelf.now) c.self.view_is
