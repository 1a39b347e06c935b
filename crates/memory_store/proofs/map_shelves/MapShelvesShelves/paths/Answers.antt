use Rattle.std.proofs.Common.{◌∙◌, ap, option_copied}
use Rattle.std.specs.FinMap as map
use Rattle.std.specs.FinSet as set
use Rattle.world.specs.Visible.{paths_among, paths_on, paths_seen}
use Rattle.world.specs.World.{World, above, text_cmp}
use Rattle.memory_store.proofs.MapsDone.{read, no_fault}
use Rattle.world.proofs.MoreTexts.{put_first}
use Rattle.memory_store.proofs.map_shelves.MapShelvesShelves.paths.Goals as goal

pub returns : goal.returns
returns c = record {
  reads = record {
    honest = λ h. h;
    at = λ _ w is.
        let m = c.args.self.now in
        let s = c.args.shelf.now in
        let was : World = record {
          keys = c.self.inside.keys;
          shelves = c.self.inside.shelves;
          entries =
              c.self.inside.entries;
        } in
        let own : World → set.FinSet text_cmp = λ x. paths_among s (map.entries x.entries) in
        read m w c.add_paths_above.new.paths (paths_seen w s) is
        (c.in_ok-add_paths_above.ensures
        ∙ ap (λ ps. set.union ps (paths_on m (above (option_copied c.group_of.result))))
        (c.in_ok-add_paths.ensures ∙ ap (λ ps. set.union ps (own was)) c.new-paths.ensures ∙ put_first (own was)
        ∙ ap own c.self.view_is)
        ∙ ap (λ g. set.union (own m) (paths_on m (above g))) c.group_of.ensures
        ∙ ap (λ (x : World). paths_seen x s) is.0);
    cause = no_fault _ _ _;
  };
}
