-- The rows of `access`, put into a store that has the old shelves and nothing else.
use Rattle.std.proofs.Common.{◌≡◌, ◌≤◌, ◌∙◌, ℕ, true, List, [], ◌∷◌, Some, is_some, inl, inr, refl, sym, ap, subst}
use Rattle.std.specs.Prelude.{bytes_eq, ◌&&◌}
use Rattle.std.specs.FinMap as map
use Rattle.sqlite.specs.Order.{Row, column}
use Rattle.sqlite.specs.Tree.{Trees}
use Rattle.sqlite_rules.specs.Lists.{Has}
use Rattle.world.specs.declared.entry.Holder.{Holder}
use Rattle.world.specs.World.{World, IsWorld, common, is_key, text_cmp, version_limit}
use Rattle.tables.specs.Means.{StandFor, IsAccess, Tabulates}
use Rattle.tables.specs.Walks.{Pass}
use Rattle.tables.proofs.Maps.{none_in_empty}
use Rattle.tables.proofs.OneWorld.{texts_same}
use Rattle.tables.proofs.SoundLemmas.{key_shelf}
use Rattle.statements.specs.Extract.{AddsKeys, PutsKey, ShowsKey, IsKeyShown}
use Rattle.statements.specs.Lookup.{AreFound}
use Rattle.statements.proofs.CopyKeyLemmas.{IsAmong, keys_passed, put_all}
use Rattle.older.specs.Means.{IsShelf}
use Rattle.older_rows.specs.Visits.{Visits}
use Rattle.older_rows.specs.Registry.{IsGoodKey, IsKeyRow, PutsKeys}
use Rattle.older_rows.proofs.ListedLemmas.{key_columns}

-- what a visit of a row of `access` does, whatever was noted
abbrev pub Puts : {X : Type 0} → X → Row → Trees → X → Trees → Type 0
Puts so_far row db next after = IsKeyRow row db after

passed : {X : Type 0} (so_far : X) (db : Trees) (rows : List Row) (end : X) (after : Trees)
    → Visits Puts so_far db rows end after → Pass (λ _ row. IsKeyShown row) (λ t row u. PutsKey row t u) db rows after
passed so_far db [] end after same = same.1
passed so_far db (r ∷ rows) end after visited =
    let it = visited.2 in ((it.0.0, it.0.1), visited.1, it.1, passed visited.0 visited.1 rows end after visited.3)

good : {X : Type 0} (so_far : X) (db : Trees) (rows : List Row) (end : X) (after : Trees)
    → Visits Puts so_far db rows end after → (row : Row) → Has rows row → IsGoodKey row
good so_far db [] end after same row there = absurd there
good so_far db (r ∷ rows) end after visited row (inl here) = subst IsGoodKey (sym here) visited.2.0
good so_far db (r ∷ rows) end after visited row (inr later) =
    good visited.0 visited.1 rows end after visited.3 row later

-- the shelf of a key exists, because the tables obey the schema
shelf_there : (after : Trees) (y : World) → StandFor after y → (k : List ℕ) (h : Holder) → map.get y.keys k ≡ Some h
    → map.contains_key y.shelves h.shelf ≡ true
shelf_there after y stand k h at =
    let row = stand.means.access.found (k, h) at in
    let shelf = key_shelf after stand.sound row.0 row.1 h.shelf row.2.1 in
    let it = stand.means.shelves.each shelf.0 shelf.1 in
    let name : h.shelf ≡ it.0.0 = texts_same (column shelf.0 1) it.0.0 h.shelf it.1.0 shelf.2 in
    ap (map.contains_key y.shelves) name ∙ ap is_some it.2

module _ (x y : World) (rows : List Row) (adds : AddsKeys (IsAmong rows) x y) (is : IsWorld x)
    (none : x.keys ≡ map.empty) where
  -- each key of y is shown by a row
  among : (k : List ℕ) (h : Holder) → map.get y.keys k ≡ Some h → IsAmong rows (k, h)
  among k h at = elim ((adds.keys (k, h)).0 at) [
    | inl was ↦ absurd (none_in_empty text_cmp k h (ap (λ m. map.get m k) (sym none) ∙ was))
    | inr it ↦ it
  ]

  -- y is a world if each row shows a well-formed key
  keyed : (after : Trees) → StandFor after y → ((row : Row) → Has rows row → IsGoodKey row) → IsWorld y
  keyed after stand each = record {
    has_common = ap (λ m. map.get m common) adds.shelves ∙ is.has_common;
    team_names = λ s at. is.team_names s (ap (λ m. map.contains_key m s) (sym adds.shelves) ∙ at);
    parents = λ s p at. ap (λ m. map.get m p) adds.shelves
        ∙ is.parents s p (ap (λ m. map.get m s) (sym adds.shelves) ∙ at);
    key_names = λ k h at.
        let it = among k h at in
        let own = each it.0 it.1 in
        ap is_key (texts_same (column it.0 0) own.0.0 k own.1.0 it.2.0) ∙ own.2;
    keys_stand = λ k h at. shelf_there after y stand k h at;
    entries_fit = λ q e at. is.entries_fit q e (ap (λ m. map.get m q) (sym adds.entries) ∙ at);
    entries_stand = λ q e at. ap (λ m. map.contains_key m q.shelf) adds.shelves
        ∙ is.entries_stand q e (ap (λ m. map.get m q) (sym adds.entries) ∙ at);
    few = λ s p. subst (λ m. map.len (map.retain_keys m (λ q. bytes_eq q.shelf s && bytes_eq q.path p)) ≤ version_limit)
        (sym adds.entries) (is.few s p);
  }

module _ {X : Type 0} (old : Trees) (so_far end : X) (db after : Trees) (rows : List Row)
    (found : AreFound (old 4) [] key_columns [] rows) (visited : Visits Puts so_far db rows end after) where
  each_good : (row : Row) → Has rows row → IsGoodKey row
  each_good = good so_far db rows end after visited

  -- the old rows of `access` are the keys of y
  access_is : (x y : World) → AddsKeys (IsAmong rows) x y → x.keys ≡ map.empty → IsWorld x
      → Tabulates IsAccess (old 4) (λ it. map.get y.keys it.0 ≡ Some it.1)
  access_is x y adds none is = record {
    each = λ row there.
        let shown = found.complete row there refl in
        let it = each_good _ shown in
        (it.0, (it.1.0, it.1.1, it.1.2), (adds.keys it.0).1 (inr (_, shown, it.1)));
    found = λ it at.
        let shown = among x y rows adds is none it.0 it.1 at in
        let from = found.sound shown.0 shown.1 in
        let shows : ShowsKey (column from.0 1 ∷ column from.0 2 ∷ column from.0 3 ∷ []) it =
        subst (λ r. ShowsKey r it) from.3 shown.2 in
        (from.0, from.1, (shows.0, shows.1, shows.2));
  }

  -- a walk over `access` adds the old keys to a world with the old shelves
  pub puts_keys : PutsKeys old db after
  puts_keys was =
      let passes = keys_passed db after was.world rows was.stands (passed so_far db rows end after visited) in
      let y = passes.0 in
      let adds = put_all was.world y rows passes.1 in
      record {
        world = y;
        is = keyed was.world y rows adds was.is was.keys after passes.2 each_good;
        shelves = subst (λ m. Tabulates IsShelf (old 2) (λ it. map.get m it.0 ≡ Some it.1)) (sym adds.shelves)
            was.shelves;
        keys = access_is was.world y adds was.keys was.is;
        entries = adds.entries ∙ was.entries;
        stands = passes.2;
      }
