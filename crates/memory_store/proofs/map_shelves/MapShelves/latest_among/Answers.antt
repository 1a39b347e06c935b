use Rattle.std.proofs.Common.{Option, ◌≡◌}
use Rattle.std.proofs.lemmas.Result.{IfOk-weaker}
use Rattle.modver.specs.SemanticVersion.{SemanticVersion}
use Rattle.world.specs.Latest.{latest_of}
use Rattle.world.specs.World.{IsWorld}
use Rattle.world.proofs.Newest.{none_latest, some_latest}
use Rattle.memory_store.proofs.map_shelves.MapShelves.latest_among.Goals as goal

pub returns-in_default : goal.returns-in_default
returns-in_default c = λ is.
    none_latest c.args.self.now is c.args.shelf.now c.args.path.now c.args.versions.now c.requires c.in_default.ensures

pub returns : goal.returns
returns c =
    let w = c.args.self.now in
    let s = c.args.shelf.now in
    let p = c.args.path.now in
    IfOk-weaker c.latest_left.result _ (λ (v : Option SemanticVersion). IsWorld w → v ≡ latest_of w s p)
    (λ v left is. some_latest w is s p c.args.versions.now c.requires c.in-Some.newest.now c.in_ok-heading.heading
    c.in_ok-gomod.gomod v
    c.in-Some.ensures c.in_ok-heading.ensures c.in_ok-gomod.ensures left)
    c.latest_left.ensures
