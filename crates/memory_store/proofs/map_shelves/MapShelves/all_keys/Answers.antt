use Rattle.std.proofs.Common.{◌∙◌, ap}
use Rattle.std.specs.FinMap as map
use Rattle.std.specs.FinSet as set
use Rattle.world.specs.World.{World}
use Rattle.world.specs.FinMaps.{with_texts}
use Rattle.world.proofs.MoreTexts.{put_into_none}
use Rattle.memory_store.proofs.map_shelves.MapShelves.all_keys.Goals as goal

pub returns : goal.returns
returns c =
    let texts = map.keys c.self.inside.keys in
    c.in_ok-add_keys.ensures ∙ ap (λ s. with_texts s texts) c.new-keys.ensures ∙ put_into_none texts
    ∙ ap (λ (w : World). set.from_list (map.keys w.keys)) c.self.view_is
