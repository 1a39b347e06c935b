use Rattle.std.proofs.Common.{◌∙◌, ap, refl, sym, subst, ℕ, List}
use Rattle.std.specs.FinMap as map
use Rattle.modver.specs.SemanticVersion.{version_text}
use Rattle.world.specs.declared.entry.Place.{Place}
use Rattle.world.specs.declared.entry.Entry.{Entry}
use Rattle.world.specs.World.{World, place_cmp, place, with_entry}
use Rattle.world.proofs.Sound.{entry_added}
use Rattle.memory_store.proofs.MapsDone.{done, no_fault}
use Rattle.memory_store.proofs.map_shelves.MapShelvesShelves.insert.Goals as goal

pub returns : goal.returns
returns c = record {
  does = record {
    honest = λ h. h;
    at = λ _ w is room.
        let inside : map.FinMap place_cmp Entry
        → World = λ m. record { keys = c.self.inside.keys; shelves = c.self.inside.shelves; entries = m } in
        let was : World = inside c.self.inside.entries in
        let s = c.args.shelf.now in
        let e : Entry = c.args.entry.now in
        let q : Place = place s c.args.path.now (version_text c.args.version.now) in
        done _ _ w tt tt (with_entry w q e) refl
        (ap inside c.in_ok-insert.ensures.ok
        ∙ ap (λ (p : List ℕ). with_entry was (place s p c.as_str-version.result.now) c.in_ok-entry.entry)
        c.as_str-path.ensures.value
        ∙ ap (λ (v : List ℕ). with_entry was (place s c.args.path.now v) c.in_ok-entry.entry)
        c.as_str-version.ensures.value
        ∙ ap (λ (x : Entry). with_entry was q x) c.in_ok-entry.ensures
        ∙ ap (λ (x : World). with_entry x q e) (c.self.view_is ∙ is.0))
        (entry_added w q e is.1 room);
    cause = no_fault _ _ _;
  };
}
