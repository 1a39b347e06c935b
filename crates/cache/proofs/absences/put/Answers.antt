use Rattle.std.proofs.Common.{◌∙◌, ap}
use Rattle.std.specs.Prelude.{string_bytes}
use Rattle.std.specs.FinMap as map
use Rattle.std.specs.FinSet as set
use Rattle.world.specs.FinMaps.{by_text}
use Rattle.world.proofs.MapsTexts.{insert_text}
use Rattle.cache.proofs.absences.put.Goals as goal

pub returns : goal.returns
returns c =
    let p = c.args.path.now in
    let was = by_text c.args.paths.now.entries in
    let key = string_bytes c.in_ok-from_str-2.field-0 in
    let with = c.insert.new.self in
    insert_text c.take_shelves-shelves.new.paths c.insert-2.new.self key with c.in_ok-insert-2.ensures.updates
    ∙ ap (λ m. map.insert m key with) c.take_shelves-shelves.ensures.rest
    ∙ ap (λ k. map.insert (map.remove was p) k with) c.in_ok-from_str-2.ensures.ok
    ∙ ap (map.insert (map.remove was p) p)
    (c.in_ok-insert.ensures.ok
    ∙ ap (λ s. set.insert c.take_shelves-shelves.result s) c.in_ok-from_str.ensures.ok
    ∙ ap (λ ss. set.insert ss c.args.shelf.now) c.take_shelves-shelves.ensures.shelves)
