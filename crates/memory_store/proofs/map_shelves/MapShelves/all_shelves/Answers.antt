use Rattle.std.proofs.Common.{◌∙◌, ap}
use Rattle.std.specs.FinMap as map
use Rattle.std.specs.FinSet as set
use Rattle.world.specs.World.{World}
use Rattle.world.specs.FinMaps.{with_texts}
use Rattle.world.proofs.MoreTexts.{put_into_none}
use Rattle.memory_store.proofs.map_shelves.MapShelves.all_shelves.Goals as goal

pub returns : goal.returns
returns c =
    let texts = map.keys c.self.inside.shelves in
    c.in_ok-add_keys.ensures ∙ ap (λ s. with_texts s texts) c.new-names.ensures ∙ put_into_none texts
    ∙ ap (λ (w : World). set.from_list (map.keys w.shelves)) c.self.view_is
