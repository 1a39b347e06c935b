-- Rows that fit stand for a world.
use Rattle.std.proofs.Common.{◌≡◌, ◌≤◌, ◌==◌, ℕ, suc, pos, negsuc, Bool, true, false, true≢false, cond, Option, Some}
use Rattle.std.proofs.Common.{None}
use Rattle.std.proofs.Common.{is_some, inr, List, [], ◌∷◌, length, map as mapped, filter, refl, sym, ap, subst, subst₂}
use Rattle.std.proofs.Common.{◌∙◌, arith}
use Rattle.std.specs.FinMap as map
use Rattle.sqlite.specs.declared.types.Value.{Value}
use Rattle.sqlite.specs.declared.types.Value.TheVariants.{Null, Int, Real, Text, Blob}
use Rattle.sqlite.specs.Order.{Row, column}
use Rattle.sqlite.specs.Tree.{Trees, rowid}
use Rattle.sqlite.specs.Values.{or_null}
use Rattle.sqlite_catalog.specs.Listing.{IsSound}
use Rattle.sqlite_trees.specs.Tree.{IsAscending}
use Rattle.sqlite_trees.proofs.ListLemmas.{ascending_weaker}
use Rattle.sqlite_rules.specs.Lists.{Has}
use Rattle.sqlite_rules.proofs.ProbeLemmas.{has_mapped, mapped_has}
use Rattle.world.specs.declared.entry.Place.{Place}
use Rattle.world.specs.declared.entry.Entry.{Entry}
use Rattle.world.specs.declared.entry.Holder.{Holder}
use Rattle.world.specs.declared.entry.Right.{Right}
use Rattle.world.specs.declared.entry.Right.TheVariants.{Reads, Publishes}
use Rattle.world.specs.World.{World, IsWorld, IsEntry, common, count, text_cmp, is_key, version_limit}
use Rattle.world.proofs.Orders.{texts_total, texts_exact, places_total, places_exact}
use Rattle.tables.specs.Schema.{store_schema}
use Rattle.tables.specs.Means.{may_publish}
use Rattle.tables.specs.Means.{Means, IsMeta, IsShelf, IsAccess, IsNumbered, IsVersion, HasKeys, schema_named}
use Rattle.tables.specs.Fit.{text_in, int_in, nat_in, blob_in, place_in, is_on, entry_shown, piece_shown, meta_shown}
use Rattle.tables.specs.Fit.{shelf_shown, name_shown, number_shown, IsShelfName, MayHaveParent, IsShelfRow, HasTop}
use Rattle.tables.specs.Fit.{ShowsEntry, AreFit}
use Rattle.tables.proofs.Ascending.{ascending_from_map, one_by_key}
use Rattle.tables.proofs.EntryTests.{with_zip}
use Rattle.tables.proofs.ZipOf.{zip_of, zip_pieces, zip_small}
use Rattle.tables.proofs.RowMapLemmas.{made_of, made_from, made_has, entries_of, len_some}
use Rattle.tables.proofs.RowFits.{time_in, time_read}
use Rattle.tables.proofs.SoundLemmas.{access_row, key_shelf, version_shelf}

-- ---- lists

pub length_mapped : {X Y : Type 0} (p : Y → Bool) (f : X → Y) (xs : List X)
    → length (filter p (mapped f xs)) ≡ length (filter (λ x. p (f x)) xs)
length_mapped p f [] = refl
length_mapped {X} {Y} p f (x ∷ xs) = go (p (f x)) (length_mapped p f xs)
  where
    go : (b : Bool) → length (filter p (mapped f xs)) ≡ length (filter (λ x. p (f x)) xs)
        → length (cond b (f x ∷ filter p (mapped f xs)) (filter p (mapped f xs)))
        ≡ length (cond b (x ∷ filter (λ x. p (f x)) xs) (filter (λ x. p (f x)) xs))
    go true h = ap suc h
    go false h = h

-- ---- what a row says

abbrev is_one : Value → Bool
is_one Null = false
is_one (Int (pos n)) = n == 1
is_one (Int (negsuc n)) = false
is_one (Real x) = false
is_one (Text t) = false
is_one (Blob b) = false

right_of : Bool → Right
right_of true = Publishes
right_of false = Reads

right_is : (b : Bool) → may_publish (right_of b) ≡ b
unfolding right_of
right_is true = refl
right_is false = refl

flag_in : (v : Value) (b : Bool) → v ≡ Int (cond b (pos 1) (pos 0)) → is_one v ≡ b
flag_in v true is = ap is_one is
flag_in v false is = ap is_one is

abbrev shelf_of : Row → List ℕ
shelf_of row = text_in (column row 1)

abbrev parent_of : Row → Option (List ℕ)
parent_of row = time_in (column row 2)

abbrev token_of : Row → List ℕ
token_of row = text_in (column row 1)

abbrev holder_of : Row → Holder
holder_of row = record { shelf = text_in (column row 2); right = right_of (is_one (column row 3)) }

abbrev place_of : Row → Place
place_of row = record {
  shelf = text_in (column row 2);
  path = text_in (column row 3);
  version =
      text_in (column row 4);
}

abbrev entry_of : List Row → Row → Entry
entry_of pieces row = record { gomod = blob_in (column row 6); zip = zip_of pieces row; time = time_in (column row 5) }

pub world_of : Trees → World
world_of db = record {
  keys = made_of texts_total texts_exact token_of holder_of (db 4);
  shelves = made_of texts_total texts_exact shelf_of parent_of (db 2);
  entries = made_of places_total places_exact place_of (entry_of (db 8)) (db 6);
}

pub held_text : (v : Value) (t : List ℕ) → v ≡ Text t → v ≡ Text (text_in v)
held_text v t is = is ∙ ap (λ x. Text (text_in x)) (sym is)

held_blob : (v : Value) (b : List ℕ) → v ≡ Blob b → v ≡ Blob (blob_in v)
held_blob v b is = is ∙ ap (λ x. Blob (blob_in x)) (sym is)

module _ (db : Trees) (sound : IsSound store_schema db) (fit : AreFit db) where
  abbrev shelves_of : map.FinMap text_cmp (Option (List ℕ))
  shelves_of = made_of texts_total texts_exact shelf_of parent_of (db 2)

  -- ---- shelves

  names_once : IsAscending (λ a b. shelf_of a ≡ shelf_of b → ⊥) (db 2)
  names_once = ascending_from_map _ shelf_shown (db 2) fit.shelves.shelves.once

  shelf_row : (row : Row) → Has (db 2) row → IsShelfRow (shelf_shown row)
  shelf_row row there = fit.shelves.shelves.each (shelf_shown row) (mapped_has shelf_shown (db 2) row there)

  shelf_is : (row : Row) → Has (db 2) row → IsShelf row (shelf_of row, parent_of row)
  shelf_is row there = let it = shelf_row row there in
      (held_text (column row 1) it.0 it.2, it.3 ∙ ap (or_null Text) (time_read (column row 2) it.1 it.3))

  shelf_got : (row : Row) → Has (db 2) row → map.get shelves_of (shelf_of row) ≡ Some (parent_of row)
  shelf_got row there = made_has texts_total texts_exact shelf_of parent_of (db 2)
      (one_by_key shelf_of (db 2) names_once) row there

  shelf_stands : (t : List ℕ) → ((shelf : Row) × Has (db 2) shelf × (column shelf 1 ≡ Text t))
      → map.contains_key shelves_of t ≡ true
  shelf_stands t it = subst (λ s. map.contains_key shelves_of s ≡ true) (ap text_in it.2)
      (ap is_some (shelf_got it.0 it.1))

  good_name : (name : List ℕ) (parent : Option (List ℕ)) → MayHaveParent name parent → IsShelfName name
  good_name name None named = named
  good_name name (Some parent) named = inr named.0

  name_good : (s : List ℕ) (o : Option (Option (List ℕ))) → map.get shelves_of s ≡ o → is_some o ≡ true → IsShelfName s
  name_good s None at there = absurd (true≢false (sym there))
  name_good s (Some parent) at there =
      let it = made_from texts_total texts_exact shelf_of parent_of (db 2) s parent at in
      let row = shelf_row it.0 it.1 in
      subst IsShelfName (ap text_in (sym row.2) ∙ sym it.2) (good_name row.0 row.1 row.4)

  -- a row without a parent is of a shelf without one
  top_got : (t : List ℕ) → HasTop (mapped shelf_shown (db 2)) t → map.get shelves_of t ≡ Some None
  top_got t top =
      let from = has_mapped shelf_shown (db 2) top.0 top.1 in
      let name : shelf_of from.0 ≡ t = ap (λ (row : Row). text_in (column row 0)) (sym from.2) ∙ ap text_in top.2 in
      let none : parent_of from.0 ≡ None = ap (λ (row : Row). time_in (column row 1)) (sym from.2) ∙ ap time_in top.3 in
      subst₂ (λ s o. map.get shelves_of s ≡ Some o) name none (shelf_got from.0 from.1)

  -- ---- keys

  tokens_once : IsAscending (λ a b. token_of a ≡ token_of b → ⊥) (db 4)
  tokens_once = ascending_from_map _ name_shown (db 4) fit.access.once

  key_named : (row : Row) → Has (db 4) row → (key : List ℕ) × (column row 1 ≡ Text key) × (is_key key ≡ true)
  key_named row there = fit.access.each (name_shown row) (mapped_has name_shown (db 4) row there)

  -- each key has a number of its own
  numbers_own : IsNumbered (db 4)
  numbers_own = record {
    number = λ row there. fit.numbers.each (number_shown row) (mapped_has number_shown (db 4) row there);
    own = λ a b here there same.
        one_by_key (λ row. int_in (rowid row)) (db 4) (ascending_from_map _ number_shown (db 4) fit.numbers.once) a b
        here there (ap int_in same);
  }

  access_is : (row : Row) → Has (db 4) row → IsAccess row (token_of row, holder_of row)
  access_is row there =
      let it = key_named row there in
      let held = access_row db sound row there in
      let right : may_publish (right_of (is_one (column row 3))) ≡ held.1.0 = right_is _
      ∙ flag_in (column row 3) held.1.0 held.1.1 in
      (held_text (column row 1) it.0 it.1, held.0, held.1.1 ∙ ap (λ b. Int (cond b (pos 1) (pos 0))) (sym right))

  -- ---- entries

  places_once : IsAscending (λ a b. place_of a ≡ place_of b → ⊥) (db 6)
  places_once = ascending_from_map _ entry_shown (db 6) fit.entries.once

  entry_shown_at : (row : Row) → Has (db 6) row → (q : Place) × (e : Entry) × ShowsEntry (entry_shown row) q e
  entry_shown_at row there = fit.entries.each (entry_shown row) (mapped_has entry_shown (db 6) row there)

  -- if the rows fit, each row of `version` shows its entry, with the zip of its pieces
  version_is : (row : Row) → Has (db 6) row → IsVersion (db 8) row (place_of row, entry_of (db 8) row)
  version_is row there =
      let it = entry_shown_at row there in
      let shows = it.2 in
      record {
        place = (
          held_text (column row 2) it.0.shelf shows.shelf,
          held_text (column row 3) it.0.path shows.path,
          held_text (column row 4) it.0.version shows.version,
        );
        time = shows.files.time ∙ ap (or_null Text) (time_read (column row 5) it.1.time shows.files.time);
        gomod = held_blob (column row 6) it.1.gomod shows.files.gomod;
        keys = subst (HasKeys row) (ap text_in (sym shows.version))
            (record { order = shows.keys.order; rank = shows.keys.rank });
        zip = zip_pieces db fit.pieces row;
      }

  may_stand : (row : Row) → Has (db 6) row → IsEntry (place_of row) (entry_of (db 8) row)
  may_stand row there =
      let it = entry_shown_at row there in
      let shows = it.2 in
      let zip = zip_of (db 8) row in
      let q : it.0 ≡ place_of row = λ i.
      record {
        shelf = ap text_in (sym shows.shelf) i;
        path = ap text_in (sym shows.path) i;
        version =
            ap text_in (sym shows.version) i;
      } in
      let e : record it.1 { zip = zip } ≡ entry_of (db 8) row = λ i.
      record {
        gomod = ap blob_in (sym shows.files.gomod) i;
        zip = zip;
        time =
            time_read (column row 5) it.1.time shows.files.time i;
      } in
      subst₂ IsEntry q e (with_zip it.0 it.1 zip shows.may (zip_small db fit.pieces row))

  -- ---- the world

  meta_is : (row : Row) → Has (db 0) row → IsMeta row schema_named
  meta_is row there = fit.named.each (meta_shown row) (mapped_has meta_shown (db 0) row there)

  -- tables whose rows fit mean the world that is made of them
  pub fit_means : Means db (world_of db)
  unfolding world_of
  fit_means = record {
    named = record {
      each = λ row there. (schema_named, meta_is row there, refl);
      found = λ x holds. let some = has_mapped meta_shown (db 0) fit.named.some.0 fit.named.some.1 in
          (some.0, some.1, subst (IsMeta some.0) (sym holds) (meta_is some.0 some.1));
    };
    shelves = record {
      each = λ row there. ((shelf_of row, parent_of row), shelf_is row there, shelf_got row there);
      found = λ x holds.
          let it = made_from texts_total texts_exact shelf_of parent_of (db 2) x.0 x.1 holds in
          let same : (shelf_of it.0, parent_of it.0) ≡ x = λ i. (sym it.2 i, sym it.3 i) in
          (it.0, it.1, subst (IsShelf it.0) same (shelf_is it.0 it.1));
    };
    access = record {
      each = λ row there. (
        (token_of row, holder_of row),
        access_is row there,
        made_has texts_total texts_exact token_of holder_of (db 4) (one_by_key token_of (db 4) tokens_once) row
            there,
      );
      found = λ x holds.
          let it = made_from texts_total texts_exact token_of holder_of (db 4) x.0 x.1 holds in
          let same : (token_of it.0, holder_of it.0) ≡ x = λ i. (sym it.2 i, sym it.3 i) in
          (it.0, it.1, subst (IsAccess it.0) same (access_is it.0 it.1));
    };
    entries = record {
      each = λ row there. (
        (place_of row, entry_of (db 8) row),
        version_is row there,
        made_has places_total places_exact place_of (entry_of (db 8)) (db 6)
            (one_by_key place_of (db 6) places_once) row there,
      );
      found = λ x holds.
          let it = made_from places_total places_exact place_of (entry_of (db 8)) (db 6) x.0 x.1 holds in
          let same : (place_of it.0, entry_of (db 8) it.0) ≡ x = λ i. (sym it.2 i, sym it.3 i) in
          (it.0, it.1, subst (IsVersion (db 8) it.0) same (version_is it.0 it.1));
    };
    numbered = numbers_own;
    names = ascending_weaker _ _ (λ a b apart name one two. apart (ap text_in (one ∙ sym two))) (db 2) names_once;
    tokens = ascending_weaker _ _ (λ a b apart token one two. apart (ap text_in (one ∙ sym two))) (db 4) tokens_once;
    places = ascending_weaker _ _
        (λ a b apart p at by. apart
        (λ i. record {
          shelf = ap text_in (at.0 ∙ sym by.0) i;
          path = ap text_in (at.1 ∙ sym by.1) i;
          version =
              ap text_in (at.2 ∙ sym by.2) i;
        })) (db 6) places_once;
    pieces = ascending_weaker _ _ (λ a b apart version number. apart (λ i. (int_in (version i), nat_in (number i))))
        (db 8) (ascending_from_map _ piece_shown (db 8) fit.pieces.pieces.once);
  }

  few_at : (s p : List ℕ) → count (world_of db) s p ≤ version_limit
  unfolding world_of
  few_at s p =
      let some = len_some places_total places_exact (is_on s p)
      (entries_of places_total places_exact place_of (entry_of (db 8)) (db 6)) in
      let rows = length_mapped (λ (e : Place × Entry). is_on s p e.0) (λ row. (place_of row, entry_of (db 8) row))
      (db 6) in
      let shows = length_mapped (λ row. is_on s p (place_in row)) entry_shown (db 6) in
      omega (arith, some, rows, shows, fit.entries.few s p)

  -- what is made of tables whose rows fit is a world
  pub fit_world : IsWorld (world_of db)
  unfolding world_of
  fit_world = record {
    has_common = top_got common fit.shelves.has_common;
    team_names = λ s h. name_good s _ refl h;
    parents = λ s parent h.
        let it = made_from texts_total texts_exact shelf_of parent_of (db 2) s (Some parent) h in
        let shown : column it.0 2 ≡ Text parent = (shelf_is it.0 it.1).1 ∙ ap (or_null Text) (sym it.3) in
        top_got parent (fit.shelves.parents (shelf_shown it.0) parent (mapped_has shelf_shown (db 2) it.0 it.1) shown);
    key_names = λ k h is.
        let it = made_from texts_total texts_exact token_of holder_of (db 4) k h is in
        let named = key_named it.0 it.1 in
        subst (λ t. is_key t ≡ true) (ap text_in (sym named.1) ∙ sym it.2) named.2;
    keys_stand = λ k h is.
        let it = made_from texts_total texts_exact token_of holder_of (db 4) k h is in
        subst (λ (x : Holder). map.contains_key shelves_of x.shelf ≡ true) (sym it.3)
        (shelf_stands _ (key_shelf db sound it.0 it.1 _ (access_is it.0 it.1).1));
    entries_fit = λ q e is.
        let it = made_from places_total places_exact place_of (entry_of (db 8)) (db 6) q e is in
        subst₂ IsEntry (sym it.2) (sym it.3) (may_stand it.0 it.1);
    entries_stand = λ q e is.
        let it = made_from places_total places_exact place_of (entry_of (db 8)) (db 6) q e is in
        subst (λ (x : Place). map.contains_key shelves_of x.shelf ≡ true) (sym it.2)
        (shelf_stands _ (version_shelf db sound it.0 it.1 _ (version_is it.0 it.1).place.0));
    few = few_at;
  }
