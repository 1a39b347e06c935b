use Rattle.std.proofs.Common.{◌∙◌, ap}
use Rattle.std.specs.FinMap as map
use Rattle.world.specs.World.{place}
use Rattle.memory_store.proofs.MapsPlaces.{nothing_at, something_at}
use Rattle.memory_store.proofs.entry_map.EntryMap.get.Goals as goal

pub returns-in_err-get : goal.returns-in_err-get
returns-in_err-get c =
    let q = place c.args.shelf.now c.args.path.now c.args.version.now in
    rw c.from_residual.ensures
    (nothing_at c.self.inside.shelves c.args.shelf.now c.args.path.now c.args.version.now c.in_err-get.ensures
    ∙ ap (λ m. map.get m q) c.self.view_is)

pub returns : goal.returns
returns c =
    let q = place c.args.shelf.now c.args.path.now c.args.version.now in
    c.get_under.ensures ∙ something_at c.self.inside.shelves c.args.shelf.now c.args.path.now c.args.version.now
    c.in_ok-get.field-0.now c.in_ok-get.ensures ∙ ap (λ m. map.get m q) c.self.view_is
