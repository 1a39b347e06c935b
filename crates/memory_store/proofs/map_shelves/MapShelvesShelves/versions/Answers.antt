use Rattle.std.proofs.Common.{◌∙◌, ap}
use Rattle.world.specs.Versions.{versions_of}
use Rattle.world.specs.World.{World}
use Rattle.memory_store.proofs.MapsDone.{read, no_fault}
use Rattle.memory_store.proofs.map_shelves.MapShelvesShelves.versions.Goals as goal

pub returns : goal.returns
returns c = record {
  reads = record {
    honest = λ h. h;
    at = λ _ w is.
        let s = c.args.shelf.now in
        let p = c.args.path.now in
        let found = rw c.as_str.ensures.value at c.in_ok-sorted_versions.ensures in
        read c.args.self.now w _ (versions_of w s p) is (found ∙ ap (λ (x : World). versions_of x s p) is.0);
    cause = no_fault _ _ _;
  };
}
