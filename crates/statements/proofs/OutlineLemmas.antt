-- What the query of the last piece answers, and how long a zip is that ends with a piece.
use Rattle.std.proofs.Common.{◌≡◌, ◌<◌, ◌+◌, ◌*◌, ℕ, ℤ, pos, true, false, List, [], ◌∷◌, length, drop, Option, Some}
use Rattle.std.proofs.Common.{None, is_some, refl, sym, ap, subst, ◌∙◌, arith, true≢false}
use Rattle.std.proofs.lemmas.Bool.{and_parts, and_from}
use Rattle.std.proofs.lemmas.List.{length-take, length-drop}
use Rattle.sqlite.specs.declared.types.Value.TheVariants.{Int, Blob}
use Rattle.sqlite.specs.Collation.TheVariants.{Binary}
use Rattle.sqlite_value.specs.declared.keys.Key.{Key}
use Rattle.sqlite.specs.Order.{Row, column}
use Rattle.sqlite.specs.Term.{Term, col}
use Rattle.sqlite.specs.Query.{Query}
use Rattle.sqlite.specs.Effect.{Database}
use Rattle.sqlite_rules.proofs.ListLemmas.{has_filtered, has_kept}
use Rattle.world.specs.declared.entry.Heading.{Heading}
use Rattle.world.specs.declared.entry.Seen.{Seen}
use Rattle.outline.specs.declared.outlines.Outline.{Outline}
use Rattle.outline.specs.Outline.{in_outline}
use Rattle.tables.specs.Pieces.{piece_size, begin, HasPiece, piece}
use Rattle.sqlite.specs.Tree.{Trees}
use Rattle.statements.specs.Lookup.{FirstFound}
use Rattle.statements.specs.Outlines.{HasSize, EndsWith}
use Rattle.statements.specs.Reading.{IsZip, IsRowOf, ShowsPiece}
use Rattle.statements.specs.declared.entries.VersionRow.{VersionRow}
use Rattle.statements.specs.declared.outlines.Piece.{Piece}
use Rattle.statements.proofs.LookupLemmas.{ordered, Picks, picked_found}
use Rattle.statements.proofs.ZipLemmas.{of_version, shown, is_of_number, int_same, zip_params}

-- ---- the query

abbrev by_last : List (Term × Key)
by_last = (col 1 2, record { collation = Binary; descending = true }) ∷ []

abbrev pub last_query : Query
last_query = ordered 8 of_version shown by_last

module _ (id : ℤ) (db : Database) where
  found : (row : Option Row) → Picks last_query (zip_params id) db row
      → FirstFound (db.trees 8) of_version shown (zip_params id) row
  found row picked = picked_found (zip_params id) db 8 of_version shown by_last (λ _. refl) row picked

  pub last_shown : (row : Row) (it : Piece) → Picks last_query (zip_params id) db (Some row)
      → column row 0 ≡ Int (pos it.number)
      → ((bytes : List ℕ) → column row 1 ≡ Blob bytes → it.size ≡ length bytes) → (zip : List ℕ) → IsZip db.trees id zip
      → HasSize zip it
  last_shown row it picked number size zip is =
      let from = found (Some row) picked in
      let own = is.each from.0 (has_kept (is_of_number id) (db.trees 8) from.0 from.1 (and_parts _ _ from.2).0) in
      let same : own.0 ≡ it.number =
      int_same (sym own.1.number ∙ (sym (ap (λ (r : Row). column r 0) from.3) ∙ number)) in
      let bytes : column row 1 ≡ Blob (piece zip it.number) = ap (λ (r : Row). column r 1) from.3
      ∙ (own.1.bytes ∙ ap (λ m. Blob (piece zip m)) same) in
      (subst (HasPiece zip) same own.2, size (piece zip it.number) bytes)

  pub none_shown : Picks last_query (zip_params id) db None → (zip : List ℕ) → IsZip db.trees id zip → ¬ HasPiece zip 0
  none_shown picked zip is has =
      let from = is.found 0 has in
      let passed = has_filtered (is_of_number id) (db.trees 8) from.0 from.1 in
      true≢false (sym (and_from _ _ passed.1 refl) ∙ found None picked from.0 passed.0)

-- ---- lengths

-- a piece that is not full is the last
pub short_ends : (zip : List ℕ) (it : Piece) → it.size < piece_size → EndsWith zip it
short_ends zip it short is more =
    let n = it.number in
    let taken = length-take piece_size (drop (begin n) zip) in
    let dropped = length-drop (begin n) zip in
    let size = is.1 in
    omega (arith, short, more, taken, dropped, size)

-- and so is one that no other follows
pub none_follows : (db : Trees) (id : ℤ) (next : ℕ) (it : Piece) (row : Option Row) → next ≡ it.number + 1
    → ShowsPiece db id next row → is_some row ≡ false → (zip : List ℕ) → IsZip db id zip → EndsWith zip it
none_follows db id next it None is shows none = λ zip own _. subst (λ n. ¬ HasPiece zip n) is (shows zip own)
none_follows db id next it (Some row) is shows none = absurd (true≢false none)

-- an empty zip
pub none_length : (zip : List ℕ) → ¬ HasPiece zip 0 → 0 ≡ length zip
none_length zip none = omega (arith, none)

-- the pieces before the last, and it
pub whole_length : (zip : List ℕ) (it : Piece) → HasSize zip it → ¬ HasPiece zip (it.number + 1)
    → it.number * piece_size + it.size ≡ length zip
whole_length zip it is none =
    let n = it.number in
    let taken = length-take piece_size (drop (begin n) zip) in
    let dropped = length-drop (begin n) zip in
    let has = is.0 in
    let size = is.1 in
    omega (arith, none, has, taken, dropped, size)

-- ---- what a row is of

-- the row, and the length of its zip, are the outline
pub outline_of_row : (db : Trees) (seen : Option Seen) (row : VersionRow) (bytes mod_bytes : ℕ)
    → (it : IsRowOf db seen row) → mod_bytes ≡ length row.heading.gomod → bytes ≡ length it.entry.zip
    → Some (record { shelf = row.shelf; time = row.heading.time; gomod_bytes = mod_bytes; zip_bytes = bytes })
    ≡ in_outline seen
outline_of_row db seen row bytes mod_bytes it mods zips =
    let same : mod_bytes ≡ length it.entry.gomod = mods ∙ ap (λ (h : Heading). length h.gomod) it.heading in
    let times = ap (λ (h : Heading). h.time) it.heading in
    let whole : ◌≡◌ {A = Outline}
    (record { shelf = row.shelf; time = row.heading.time; gomod_bytes = mod_bytes; zip_bytes = bytes })
    (record {
      shelf = row.shelf;
      time = it.entry.time;
      gomod_bytes = length it.entry.gomod;
      zip_bytes =
          length it.entry.zip;
    }) =
    λ i. record { shelf = row.shelf; time = times i; gomod_bytes = same i; zip_bytes = zips i } in
    ap Some whole ∙ sym (ap in_outline it.is)
