-- What the tables mean with the rows of one more entry.
use Rattle.std.specs.FinMap as map
use Rattle.std.proofs.Common.{◌≡◌, ◌⊎◌, ℕ, ℤ, false, List, Option, Some, None, filter, inl, inr, refl, sym, ap, subst}
use Rattle.std.proofs.Common.{◌∙◌, arith, true≢false}
use Rattle.std.proofs.lemmas.Bool.{false_from_ne_true}
use Rattle.sqlite.specs.declared.types.Value.TheVariants.{Int}
use Rattle.sqlite.specs.Collation.TheVariants.{Binary}
use Rattle.sqlite.specs.Order.{Row, column}
use Rattle.sqlite.specs.Tree.{Trees, rowid}
use Rattle.sqlite_schema.specs.Rules.{equal}
use Rattle.sqlite_catalog.specs.Listing.{IsSound}
use Rattle.sqlite_rules.specs.Lists.{Has}
use Rattle.sqlite_rules.proofs.ListLemmas.{all_from, has_filtered, has_kept}
use Rattle.world.specs.declared.entry.Place.{Place}
use Rattle.world.specs.declared.entry.Entry.{Entry}
use Rattle.world.specs.World.{World, with_entry}
use Rattle.world.proofs.Orders.{places_total, places_exact, get_put}
use Rattle.tables.specs.Schema.{store_schema}
use Rattle.tables.specs.Pieces.{HasPiece}
use Rattle.tables.specs.Means.{Means, Tabulates, IsVersion, IsAt, ArePieces, is_of}
use Rattle.tables.proofs.Maps.{put_keeps, put_splits}
use Rattle.tables.proofs.ValueLemmas.{int_itself, fresh_before, fresh_after, equal_turned, equal_chain}
use Rattle.tables.proofs.SoundLemmas.{piece_version}
use Rattle.tables.proofs.CountedRows.{same_place}
use Rattle.statements.specs.Rows.{AddsRows, piece_read}
use Rattle.statements.specs.Added.{HasAdded, version_row, piece_values}
use Rattle.statements.proofs.RowLemmas.{of_as, same_pieces}
use Rattle.statements.proofs.TabulateLemmas.{tabulates_put, put_apart}

-- ---- the pieces of the new version, among those of the others

module _ (id : ℤ) (p : Place) (e : Entry) (rows pieces more : List Row)
    (adds : AddsRows piece_read (λ values. (n : ℕ) × HasPiece e.zip n × (values ≡ piece_values id e.zip n)) pieces more)
  where
    abbrev row : Row
    row = version_row id p e

    -- another version has the pieces that it had
    pieces_still : (other : Row) (zip : List ℕ) → equal Binary (Int id) (rowid other) ≡ false
        → ArePieces (filter (is_of other) pieces) zip → ArePieces (filter (is_of other) more) zip
    pieces_still other zip apart are = same_pieces other other pieces more zip
        (λ b there tied. elim ((adds (piece_read b)).0 (b, there, refl)) [
          | inl was ↦ (was.0, was.1, of_as other was.0 b (sym was.2) tied, was.2)
          | inr new ↦ absurd (true≢false
              (sym tied ∙ (ap (λ v. equal Binary v (rowid other)) (ap (λ (r : Row). column r 0) new.2) ∙ apart)))
        ])
        (λ a there tied. let b = (adds (piece_read a)).1 (inl (a, there, refl)) in
        (b.0, b.1, of_as other b.0 a (sym b.2) tied, sym b.2))
        are

    -- the new one has those of its zip
    pieces_new : ((b : Row) → Has pieces b → is_of row b ≡ false) → ArePieces (filter (is_of row) more) e.zip
    pieces_new none = record {
      each = λ b h.
          let passed = has_filtered (is_of row) more b h in
          elim ((adds (piece_read b)).0 (b, passed.0, refl)) [
            | inl was ↦ absurd (true≢false (sym (of_as row was.0 b (sym was.2) passed.1) ∙ none was.0 was.1))
            | inr new ↦ (let it = ap (λ (r : Row). column r 1) new.2 in
                let bytes = ap (λ (r : Row). column r 2) new.2 in
                (new.0, record { number = it; bytes = bytes }, new.1))
          ];
      found = λ n has.
          let b = (adds (piece_values id e.zip n)).1 (inr (n, has, refl)) in
          let own : column b.0 1 ≡ Int id = sym (ap (λ (r : Row). column r 0) b.2) in (
            b.0,
            has_kept (is_of row) more b.0 b.1 (ap (λ v. equal Binary v (Int id)) own ∙ int_itself id),
            record { number = sym (ap (λ (r : Row). column r 1) b.2); bytes = sym (ap (λ (r : Row). column r 2) b.2) },
          );
    }

module _ (w : World) (p : Place) (e : Entry) (unused : map.get w.entries p ≡ None) where
  still_there : (y : Place × Entry) → map.get w.entries y.0 ≡ Some y.1
      → map.get (with_entry w p e).entries y.0 ≡ Some y.1
  still_there y is = put_keeps places_total places_exact w.entries p e unused y.0 y.1 is

  split : (y : Place × Entry) → map.get (with_entry w p e).entries y.0 ≡ Some y.1
      → (y ≡ (p, e)) ⊎ (map.get w.entries y.0 ≡ Some y.1)
  split y is = put_splits places_total places_exact w.entries p e y is

  -- no row of the tables names the place
  place_free : (pieces rows : List Row) → Tabulates (IsVersion pieces) rows (λ it. map.get w.entries it.0 ≡ Some it.1)
      → (r : Row) → Has rows r → (new : Row) → IsAt new p → (q : Place) → IsAt new q → IsAt r q → ⊥
  place_free pieces rows tabulated r there new at q new_at r_at =
      let it = tabulated.each r there in
      let same : it.0.0 ≡ p = same_place r it.0.0 q it.1.place r_at ∙ same_place new q p new_at at in
      let none : ◌≡◌ {A = Option Entry} (Some it.0.1) None = sym it.2
      ∙ (ap (map.get w.entries) same ∙ unused) in absurd (cc)

  -- tables that mean `w` mean `w` with the entry once the rows of the entry are added
  pub entry_means : (number : Option ℤ) (db after : Trees) → IsSound store_schema db → HasAdded number db after p e
      → Means db w → Means after (with_entry w p e)
  entry_means number db after sound a means =
      let row = version_row a.id p e in
      let rows : after 6 ≡ a.mid 6 = a.zip.tables.1.1.1.0 (λ f. omega (arith, f)) in
      let same : a.mid 8 ≡ db 8 = a.version.tables.1.1.1.1.0 (λ f. omega (arith, f)) in
      let adds : AddsRows piece_read (λ values. (n : ℕ) × HasPiece e.zip n × (values ≡ piece_values a.id e.zip n))
      (db 8) (after 8) =
      subst (λ l. AddsRows piece_read (λ values. (n : ℕ) × HasPiece e.zip n × (values ≡ piece_values a.id e.zip n)) l
      (after 8)) same a.zip.pieces in
      let none : (b : Row) → Has (db 8) b → is_of row b ≡ false = λ b there. false_from_ne_true (is_of row b) (λ tied.
      let v = piece_version db sound b there in
      true≢false (sym (equal_chain (rowid v.0) (column b 1) (Int a.id) (equal_turned (rowid v.0) (column b 1) ∙ v.2)
      tied) ∙ fresh_before a.id row (db 6) refl a.version.fresh v.0 v.1)) in
      let still : (r : Row) (it : Place × Entry) → Has (db 6) r → IsVersion (db 8) r it
      → IsVersion (after 8) r it = λ r it there is. record {
        place = is.place;
        time = is.time;
        gomod = is.gomod;
        keys = is.keys;
        zip = pieces_still a.id p e (db 6) (db 8) (after 8) adds r it.1.zip
            (fresh_after a.id row (db 6) refl a.version.fresh r there) is.zip;
      } in
      let wider : Tabulates (IsVersion (after 8)) (db 6) (λ it. map.get w.entries it.0 ≡ Some it.1) = record {
        each = λ r h. let it = means.entries.each r h in (it.0, still r it.0 h it.1, it.2);
        found = λ x h. let it = means.entries.found x h in (it.0, it.1, still it.0 x it.1 it.2);
      } in
      let new_is : IsVersion (after 8) row (p, e) = record {
        place = (refl, refl, refl);
        time = refl;
        gomod = refl;
        keys = record { order = refl; rank = refl };
        zip = pieces_new a.id p e (db 6) (db 8) (after 8) adds none;
      } in
      record {
        named = rw (a.zip.tables.0 (λ f. omega (arith, f)), a.version.tables.0 (λ f. omega (arith, f))) means.named;
        shelves = rw (a.zip.tables.1.0 (λ f. omega (arith, f)), a.version.tables.1.0 (λ f. omega (arith, f)))
            means.shelves;
        access = rw (a.zip.tables.1.1.0 (λ f. omega (arith, f)), a.version.tables.1.1.0 (λ f. omega (arith, f)))
            means.access;
        numbered = rw (a.zip.tables.1.1.0 (λ f. omega (arith, f)), a.version.tables.1.1.0 (λ f. omega (arith, f)))
            means.numbered;
        entries = rw (rows, a.version.rows)
            (tabulates_put (IsVersion (after 8)) (db 6) row (p, e) _ _ a.version.fresh new_is still_there
            (get_put places_total w.entries p e) split wider);
        names = rw (a.zip.tables.1.0 (λ f. omega (arith, f)), a.version.tables.1.0 (λ f. omega (arith, f))) means.names;
        tokens = rw (a.zip.tables.1.1.0 (λ f. omega (arith, f)), a.version.tables.1.1.0 (λ f. omega (arith, f)))
            means.tokens;
        places = rw (rows, a.version.rows) (put_apart (λ a b. (q : Place) → IsAt a q → IsAt b q → ⊥)
            (λ a b apart q ofb ofa. apart q ofa ofb) row (db 6)
            (all_from _ (db 6) (λ r there. place_free (db 8) (db 6) means.entries r there row (refl, refl, refl)))
            means.places);
        pieces = a.zip.once
            (λ b there own. true≢false
            (sym (ap (λ v. equal Binary v (Int a.id)) own ∙ int_itself a.id)
            ∙ none b (subst (λ l. Has l b) same there)))
            (subst Rattle.tables.specs.Means.IsEachPieceOnce (sym same) means.pieces);
      }
