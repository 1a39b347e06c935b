-- Rows that stand for a world fit.
use Rattle.std.proofs.Common.{◌≡◌, ◌≤◌, ◌+◌, ◌==◌, ℕ, ℤ, pos, true, Option, Some, None, is_some, List, [], ◌∷◌, length}
use Rattle.std.proofs.Common.{map as mapped, filter, inl, inr, refl, sym, ap, subst, ◌∙◌, arith, eq-eqb}
use Rattle.std.specs.FinMap as map
use Rattle.sqlite.specs.declared.types.Value.TheVariants.{Int, Text}
use Rattle.sqlite.specs.Order.{Row, column}
use Rattle.sqlite.specs.Tree.{Trees}
use Rattle.sqlite_catalog.specs.Listing.{IsSound}
use Rattle.sqlite_trees.specs.Tree.{IsAscending}
use Rattle.sqlite_rules.specs.Lists.{Has}
use Rattle.sqlite_rules.proofs.ListLemmas.{all_has, all_from, has_filtered, has_kept}
use Rattle.sqlite_rules.proofs.ProbeLemmas.{has_mapped, mapped_has}
use Rattle.world.specs.declared.entry.Place.{Place}
use Rattle.world.specs.World.{World, IsWorld, common, zip_limit}
use Rattle.tables.specs.Schema.{store_schema}
use Rattle.tables.specs.Pieces.{piece_size, piece, HasPiece}
use Rattle.tables.specs.Means.{Means, IsMeta, IsAt, IsPiece, ArePieces, is_of, schema_named}
use Rattle.tables.specs.Fit.{text_in, int_in, nat_in, blob_in, key_in, number_in, place_in, piece_in, piece_key}
use Rattle.tables.specs.Fit.{full_piece}
use Rattle.tables.specs.Fit.{is_on, entry_shown, piece_shown, meta_shown, shelf_shown, name_shown, number_shown}
use Rattle.tables.specs.Fit.{IsSchemaRow, MayHaveParent, HasTop, IsShelfRow, IsKeyRow, IsNumberRow, IsEntryRow}
use Rattle.tables.specs.Fit.{IsPieceRow}
use Rattle.tables.specs.Fit.{IsMetaFit, AreShelvesFit, AreKeysFit, AreNumbersFit, AreEntriesFit, ArePiecesFit, AreFit}
use Rattle.tables.proofs.AsciiLemmas.{shelf_utf8}
use Rattle.tables.proofs.CountedRows.{all_counted}
use Rattle.tables.proofs.EntryTests.{with_zip}
use Rattle.tables.proofs.RowFits.{time_in, time_read}
use Rattle.tables.proofs.PieceLemmas.{piece_some, piece_most, piece_full, piece_before}
use Rattle.tables.proofs.SoundLemmas.{piece_number, piece_version, one_version}
use Rattle.tables.proofs.WorldOf.{length_mapped, held_text}

-- a relation of each two, as they are shown
ascending_shown : {X Y : Type 0} (P : X → X → Type 0) (Q : Y → Y → Type 0) (f : X → Y) (xs : List X)
    → ((a b : X) → Has xs a → Has xs b → P a b → Q (f a) (f b)) → IsAscending P xs → IsAscending Q (mapped f xs)
ascending_shown P Q f [] gives up = tt
ascending_shown P Q f (x ∷ xs) gives up = (
  all_from (Q (f x)) (mapped f xs)
      (λ y there. let it = has_mapped f xs y there in
      subst (Q (f x)) (sym it.2) (gives x it.0 (inl refl) (inr it.1) (all_has (P x) xs it.0 up.0 it.1))),
  ascending_shown P Q f xs (λ a b here there. gives a b (inr here) (inr there)) up.1,
)

-- what holds of each as it is shown
each_shown : {X Y : Type 0} (P : Y → Type 0) (f : X → Y) (xs : List X) → ((x : X) → Has xs x → P (f x)) → (y : Y)
    → Has (mapped f xs) y → P y
each_shown P f xs gives y there = let it = has_mapped f xs y there in subst P (sym it.2) (gives it.0 it.1)

module _ (db : Trees) (w : World) (sound : IsSound store_schema db) (means : Means db w) (is : IsWorld w) where
  meta_fit : IsMetaFit (mapped meta_shown (db 0))
  meta_fit = record {
    each = each_shown IsSchemaRow meta_shown (db 0)
        (λ row there. let it = means.named.each row there in subst (IsMeta row) it.2 it.1);
    some = let it = means.named.found schema_named refl in (meta_shown it.0, mapped_has meta_shown (db 0) it.0 it.1);
  }

  named : (name : List ℕ) (parent : Option (List ℕ)) → map.get w.shelves name ≡ Some parent → MayHaveParent name parent
  named name None at = is.team_names name (ap is_some at)
  named name (Some parent) at = (
    elim (is.team_names name (ap is_some at)) [
      | inl same ↦ let never : ◌≡◌ {A = Option (Option (List ℕ))} (Some None) (Some (Some parent)) = sym is.has_common
          ∙ (ap (map.get w.shelves) (sym same) ∙ at) in absurd (cc)
      | inr team ↦ team
    ],
    is.team_names parent (ap is_some (is.parents name parent at)),
  )

  -- the row of a shelf without a parent
  top_row : (name : List ℕ) → map.get w.shelves name ≡ Some None → HasTop (mapped shelf_shown (db 2)) name
  top_row name at = let it = means.shelves.found (name, None) at in
      (shelf_shown it.0, mapped_has shelf_shown (db 2) it.0 it.1, it.2.0, it.2.1)

  shelf_key : (row : Row) → Has (db 2) row → column row 1 ≡ Text (key_in (shelf_shown row))
  shelf_key row there = let it = means.shelves.each row there in held_text (column row 1) it.0.0 it.1.0

  -- if the tables mean a world, the rows of `shelf` fit
  shelves_fit : AreShelvesFit (mapped shelf_shown (db 2))
  shelves_fit = record {
    shelves = record {
      each = each_shown IsShelfRow shelf_shown (db 2)
          (λ row there. let it = means.shelves.each row there in
          (it.0.0, it.0.1, it.1.0, it.1.1, named it.0.0 it.0.1 it.2));
      once = ascending_shown _ (λ a b. key_in a ≡ key_in b → ⊥) shelf_shown (db 2)
          (λ a b here there apart same.
          apart (key_in (shelf_shown b)) (shelf_key a here ∙ ap Text same) (shelf_key b there)) means.names;
    };
    has_common = top_row common is.has_common;
    parents = λ row parent there shown.
        let from = has_mapped shelf_shown (db 2) row there in
        let it = means.shelves.each from.0 from.1 in
        let own : column from.0 2 ≡ Text parent = ap (λ (r : Row). column r 1) (sym from.2) ∙ shown in
        let same : it.0.1 ≡ Some parent = time_read (column from.0 2) it.0.1 it.1.1 ∙ ap time_in own in
        top_row parent (is.parents it.0.0 parent (it.2 ∙ ap Some same));
  }

  own_key : (row : Row) → Has (db 4) row → column row 1 ≡ Text (key_in (name_shown row))
  own_key row there = let it = means.access.each row there in held_text (column row 1) it.0.0 it.1.0

  keys_fit : AreKeysFit (mapped name_shown (db 4))
  keys_fit = record {
    each = each_shown IsKeyRow name_shown (db 4)
        (λ row there. let it = means.access.each row there in (it.0.0, it.1.0, is.key_names it.0.0 it.0.1 it.2));
    once =
        ascending_shown _ (λ a b. key_in a ≡ key_in b → ⊥) name_shown (db 4)
        (λ a b here there apart same. apart (key_in (name_shown b)) (own_key a here ∙ ap Text same) (own_key b there))
        means.tokens;
  }

  numbers_fit : AreNumbersFit (mapped number_shown (db 4))
  numbers_fit = record {
    each = each_shown IsNumberRow number_shown (db 4) means.numbered.number;
    once = ascending_shown _ (λ a b. number_in a ≡ number_in b → ⊥) number_shown (db 4) (λ a b here there apart same.
        let m = means.numbered.number a here in
        let n = means.numbered.number b there in
        let one : a ≡ b = means.numbered.own a b here there
        (m.1 ∙ (ap Int (ap int_in (sym m.1) ∙ (same ∙ ap int_in n.1)) ∙ sym n.1)) in
        apart (key_in (name_shown a)) (own_key a here)
        (subst (λ (r : Row). column r 1 ≡ Text (key_in (name_shown a))) one (own_key a here))) means.tokens;
  }

  -- if the tables mean a world, each row of `version` shows an entry that may stand at its place
  entry_row : (row : Row) → Has (db 6) row → IsEntryRow (entry_shown row)
  entry_row row there =
      let it = means.entries.each row there in
      let may = is.entries_fit it.0.0 it.0.1 it.2 in (
        it.0.0,
        record it.0.1 { zip = [] },
        record {
          shelf = it.1.place.0;
          path = it.1.place.1;
          version = it.1.place.2;
          files = record { time = it.1.time; gomod = it.1.gomod; zip = refl };
          keys = record { order = it.1.keys.order; rank = it.1.keys.rank };
          utf8 = shelf_utf8 it.0.0.shelf (is.team_names it.0.0.shelf (is.entries_stand it.0.0 it.0.1 it.2));
          may = with_zip it.0.0 it.0.1 [] may (omega arith);
        },
      )

  own_place : (row : Row) → Has (db 6) row → IsAt row (place_in (entry_shown row))
  own_place row there = let at = (means.entries.each row there).1.place in
      (held_text (column row 2) _ at.0, held_text (column row 3) _ at.1, held_text (column row 4) _ at.2)

  place_is : (row : Row) (q : Place) → IsAt row q → place_in (entry_shown row) ≡ q
  place_is row q at = λ i. record { shelf = text_in (at.0 i); path = text_in (at.1 i); version = text_in (at.2 i) }

  entries_fit : AreEntriesFit (mapped entry_shown (db 6))
  entries_fit = record {
    each = each_shown IsEntryRow entry_shown (db 6) entry_row;
    once = ascending_shown _ (λ a b. place_in a ≡ place_in b → ⊥) entry_shown (db 6)
        (λ a b here there apart same.
        apart (place_in (entry_shown b)) (subst (IsAt a) same (own_place a here)) (own_place b there)) means.places;
    few = λ s p.
        let rows = length_mapped (λ row. is_on s p (place_in row)) entry_shown (db 6) in
        let counted = all_counted s p w db means (λ row. is_on s p (place_in (entry_shown row)))
        (λ q row at on. ap (is_on s p) (place_is row q at) ∙ on)
        (λ q row at on. ap (is_on s p) (sym (place_is row q at)) ∙ on) in
        omega (arith, rows, counted, is.few s p);
  }

  -- ---- pieces

  -- a row of `piece` is a piece of the zip of a version
  record IsOwned (r : Row) : Type 0 where
    version : Row
    zip : List ℕ
    number : ℕ
    pieces : ArePieces (filter (is_of version) (db 8)) zip
    tied : is_of version r ≡ true
    shows : IsPiece zip r number
    has : HasPiece zip number
    small : length zip ≤ zip_limit

  owned : (r : Row) → Has (db 8) r → IsOwned r
  owned r there =
      let v = piece_version db sound r there in
      let it = means.entries.each v.0 v.1 in
      let at = it.1.zip.each r (has_kept (is_of v.0) (db 8) r there v.2) in
      record {
        version = v.0;
        zip = it.0.1.zip;
        number = at.0;
        pieces = it.1.zip;
        tied = v.2;
        shows = at.1;
        has = at.2;
        small = (is.entries_fit it.0.0 it.0.1 it.2).zip;
      }

  -- if the tables mean a world, each row of `piece` shows a piece
  piece_row : (r : Row) → Has (db 8) r → IsPieceRow (piece_shown r)
  piece_row r there =
      let it = owned r there in
      let n = piece_number db sound r there in
      let has = it.has in
      let small = it.small in
      record {
        version = n.0;
        number = it.number;
        bytes = piece it.zip it.number;
        of_version = n.1;
        numbered = it.shows.number;
        holds = it.shows.bytes;
        within = omega (arith, has, small);
        some = piece_some it.zip it.number has;
        most = piece_most it.zip it.number;
      }

  -- before each but the first there is a full one of the same version
  full_before : (r : Row) (n : ℕ) → Has (db 8) r → nat_in (column r 2) ≡ n + 1
      → (b : Row) × Has (db 8) b × (piece_in (piece_shown b) ≡ full_piece (int_in (column r 1)) n)
  full_before r n there number =
      let it = owned r there in
      let same : it.number ≡ n + 1 = ap nat_in (sym it.shows.number) ∙ number in
      let has : HasPiece it.zip (n + 1) = subst (HasPiece it.zip) same it.has in
      let at = it.pieces.found n (piece_before it.zip n has) in
      let b = at.0 in
      let here = has_filtered (is_of it.version) (db 8) b at.1 in
      let of_b = piece_number db sound b here.0 in
      let of_r = piece_number db sound r there in
      let version_is : column b 1 ≡ column r 1 =
      one_version it.version (column b 1) (column r 1) of_b.0 of_r.0 of_b.1 of_r.1 here.1 it.tied in
      let number_is : nat_in (column b 2) ≡ n = ap nat_in at.2.number in
      let long : length (blob_in (column b 3)) ≡ piece_size = ap (λ v. length (blob_in v)) at.2.bytes
      ∙ piece_full it.zip n has in
      let full : (length (blob_in (column b 3)) == piece_size) ≡ true =
      eq-eqb (length (blob_in (column b 3))) piece_size long in
      (b, here.0, λ i. record { version = int_in (version_is i); number = number_is i; is_full = full i })

  -- if the tables mean a world, the rows of `piece` fit
  pieces_fit : ArePiecesFit (mapped piece_shown (db 8))
  pieces_fit = record {
    pieces = record {
      each = each_shown IsPieceRow piece_shown (db 8) piece_row;
      once = ascending_shown _ (λ a b. piece_key a ≡ piece_key b → ⊥) piece_shown (db 8) (λ a b here there apart same.
          let one = piece_row a here in
          let two = piece_row b there in
          let version_is : one.version ≡ two.version = ap int_in (sym one.of_version)
          ∙ (ap (λ (k : ℤ × ℕ). k.0) same ∙ ap int_in two.of_version) in
          let number_is : one.number ≡ two.number = ap nat_in (sym one.numbered)
          ∙ (ap (λ (k : ℤ × ℕ). k.1) same ∙ ap nat_in two.numbered) in
          apart (one.of_version ∙ (ap Int version_is ∙ sym two.of_version))
          (one.numbered ∙ (ap (λ n. Int (pos n)) number_is ∙ sym two.numbered))) means.pieces;
    };
    before = λ row n there number.
        let from = has_mapped piece_shown (db 8) row there in
        let it = full_before from.0 n from.1 (ap (λ (x : Row). nat_in (column x 1)) (sym from.2) ∙ number) in (
          piece_shown it.0,
          mapped_has piece_shown (db 8) it.0 it.1,
          it.2
              ∙ ap (λ (x : Row). full_piece (int_in (column x 0)) n) (sym from.2),
        );
  }

  pub world_fits : AreFit db
  world_fits = record {
    named = meta_fit;
    shelves = shelves_fit;
    access = keys_fit;
    numbers = numbers_fit;
    entries =
        entries_fit;
    pieces = pieces_fit;
  }
