use Rattle.std.proofs.Common.{◌∙◌, sym, ap, ℕ, List, [], ◌∷◌, option_copied}
use Rattle.std.specs.FinMap as map
use Rattle.std.specs.FinSet as set
use Rattle.std.proofs.lemmas.Result.{on_ok_weaker}
use Rattle.world.specs.Visible.{paths_among, paths_on}
use Rattle.world.specs.World.{World, above, common, text_cmp}
use Rattle.world.proofs.MoreTexts.{both_sets, none_put}
use Rattle.memory_store.proofs.map_shelves.MapShelves.add_paths_above.Goals as goal

pub returns-in_default : goal.returns-in_default
returns-in_default c =
    let m = c.args.self.now in
    let old = c.args.paths.now in
    let was : World = record {
      keys = c.self.inside.keys;
      shelves = c.self.inside.shelves;
      entries =
          c.self.inside.entries;
    } in
    let shared = paths_among common (map.entries was.entries) in
    on_ok_weaker c.add_paths.result
    (λ put.
    put ∙ ap (set.union old) (sym (none_put shared))
    ∙ ap (λ (x : World). set.union old (paths_on x (common ∷ []))) c.self.view_is
    ∙ ap (λ g. set.union old (paths_on m (above (option_copied g)))) (sym c.in_default.is))
    c.add_paths.ensures

pub returns : goal.returns
returns c =
    let m = c.args.self.now in
    let old = c.args.paths.now in
    let g = c.in-Some.group.now in
    let was : World = record {
      keys = c.self.inside.keys;
      shelves = c.self.inside.shelves;
      entries =
          c.self.inside.entries;
    } in
    let here : List ℕ → set.FinSet text_cmp = λ s. paths_among s (map.entries was.entries) in
    on_ok_weaker c.add_paths-3.result
    (λ put.
    put ∙ ap (λ ps. set.union ps (here common)) c.in_ok-add_paths.ensures ∙ both_sets old (here g) (here common)
    ∙ ap (λ ps. set.union old (set.union (here g) ps)) (sym (none_put (here common)))
    ∙ ap (λ (x : World). set.union old (paths_on x (g ∷ common ∷ []))) c.self.view_is
    ∙ ap (λ o. set.union old (paths_on m (above (option_copied o)))) (sym c.in-Some.is))
    c.add_paths-3.ensures
