use Rattle.std.proofs.Common.{◌∙◌, ap}
use Rattle.std.specs.Prelude.{string_bytes}
use Rattle.std.specs.FinMap as map
use Rattle.world.specs.FinMaps.{by_text}
use Rattle.world.proofs.MapsTexts.{insert_text}
use Rattle.cache.proofs.groups.add.Goals as goal

pub returns : goal.returns
returns c =
    let key = string_bytes c.in_ok-from_str.field-0 in
    let was = by_text c.args.shelves.now.entries in
    insert_text c.args.shelves.now c.insert.new.self key c.in_ok-group.group c.in_ok-insert.ensures.updates
    ∙ ap (λ k. map.insert was k c.in_ok-group.group) c.in_ok-from_str.ensures.ok
    ∙ ap (map.insert was c.args.shelf.now) c.in_ok-group.ensures
