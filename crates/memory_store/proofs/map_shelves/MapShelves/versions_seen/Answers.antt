use Rattle.std.proofs.Common.{◌∙◌, ◌++◌, List, ap, option_copied}
use Rattle.std.specs.FinMap as map
use Rattle.modver.specs.SemanticVersion.{SemanticVersion}
use Rattle.world.specs.Lines.{in_order}
use Rattle.world.specs.Versions.{by_precedence, named, named_on}
use Rattle.world.specs.Visible.{versions_among}
use Rattle.world.specs.World.{World, above}
use Rattle.world.proofs.SeenVersions.{on_chain}
use Rattle.memory_store.proofs.map_shelves.MapShelves.versions_seen.Goals as goal

pub returns : goal.returns
returns c =
    let w = c.args.self.now in
    let s = c.args.shelf.now in
    let p = c.args.path.now in
    let was : World = record {
      keys = c.self.inside.keys;
      shelves = c.self.inside.shelves;
      entries =
          c.self.inside.entries;
    } in
    let own : World → List SemanticVersion = λ x. named (in_order (versions_among s p (map.entries x.entries))) in
    ap (λ vs. in_order (by_precedence vs))
    (c.in_ok-add_versions_above.ensures
    ∙ ap (λ vs. vs ++ named_on w (above (option_copied c.group_of.result)) p)
    (c.in_ok-add_versions.ensures ∙ ap (λ vs. vs ++ own was) c.new-versions.ensures.items ∙ ap own c.self.view_is)
    ∙ ap (λ g. own w ++ named_on w (above g) p) c.group_of.ensures)
    ∙ on_chain w s p
