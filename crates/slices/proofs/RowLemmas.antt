-- What the queries of a version and of a piece show.
use Rattle.std.proofs.Common.{
  ◌+◌,
  length,
  ◌≡◌,
  ◌<◌,
  ℕ,
  ℤ,
  pos,
  Bool,
  true,
  inl,
  inr,
  arith,
  List,
  [],
  ◌∷◌,
  Option,
  Some,
  None,
  filter,
  refl,
  sym,
  ap,
  subst,
  ◌∙◌,
  true≢false,
}
use Rattle.std.proofs.lemmas.Bool.{and_parts, and_from, cases_order}
use Rattle.std.specs.FinMap as map
use Rattle.sqlite.specs.declared.types.Value.TheVariants.{Int, Text, Blob}
use Rattle.sqlite.specs.Collation.TheVariants.{Binary}
use Rattle.sqlite.specs.Order.{Row, column}
use Rattle.sqlite.specs.Term.{Term, col, op2}
use Rattle.sqlite.specs.Tree.{Trees, rowid}
use Rattle.sqlite.specs.Query.{Query}
use Rattle.sqlite.specs.Effect.{Database}
use Rattle.sqlite_sql.specs.declared.ops.BinaryOp.TheVariants.{Compare}
use Rattle.sqlite_sql.specs.declared.ops.CompareOp.TheVariants.{Eq, Ge}
use Rattle.sqlite_schema.specs.Rules.{equal}
use Rattle.sqlite_rules.proofs.ListLemmas.{has_filtered, has_kept}
use Rattle.world.specs.World.{World, heading_of}
use Rattle.tables.specs.Means.{Means, ArePieces}
use Rattle.tables.specs.Pieces.{HasPiece, piece, piece_size}
use Rattle.tables.proofs.ListingLemmas.{by_number as by_id}
use Rattle.tables.proofs.PieceLemmas.{piece_full}
use Rattle.tables.proofs.SoundLemmas.{ints_equal}
use Rattle.tables.proofs.ValueLemmas.{int_itself}
use Rattle.statements.specs.Extract.{ShowsVersion}
use Rattle.statements.specs.Lookup.{lookup, passes, FirstFound}
use Rattle.statements.specs.Rows.{PutsPiece}
use Rattle.statements.proofs.LookupLemmas.{Picks, picked_found, ordered}
use Rattle.slices.specs.Slices.{IsVersionIn, ShowsPieceRow}
use Rattle.slices.specs.declared.versions.Version.{Version}

-- ---- a version

abbrev from_number : List Term
from_number = op2 (Compare Ge Binary) (col 1 0) (col 0 0) ∷ []

abbrev version_shown : List Term
version_shown = col 1 0 ∷ col 1 2 ∷ col 1 3 ∷ col 1 4 ∷ col 1 5 ∷ col 1 6 ∷ col 1 7 ∷ col 1 8 ∷ []

abbrev pub version_query : Query
version_query = ordered 6 from_number version_shown by_id

abbrev pub version_params : ℤ → Row
version_params from = Int from ∷ []

-- the row that is found is that of an entry of each world that the tables mean
pub version_found : (from : ℤ) (db : Database) (w : World) (row : Row) (v : Version) → Means db.trees w
    → Picks version_query (version_params from) db (Some row)
    → v.row ≡ row → column row 0 ≡ Int v.id → column row 1 ≡ Text v.place.shelf → column row 2 ≡ Text v.place.path
    → column row 3 ≡ Text v.place.version
    → IsVersionIn db.trees w v
version_found from db w row v means picked own number shelf path version =
    let found = picked_found (version_params from) db 6 from_number version_shown by_id (λ _. refl) (Some row) picked in
    let it = means.entries.each found.0 found.1 in
    let at = λ (n : ℕ). ap (λ (r : Row). column r n) found.3 in
    let one : it.0.0.shelf ≡ v.place.shelf = let e = sym (at 1 ∙ it.1.place.0) ∙ shelf in cc in
    let two : it.0.0.path ≡ v.place.path = let e = sym (at 2 ∙ it.1.place.1) ∙ path in cc in
    let three : it.0.0.version ≡ v.place.version = let e = sym (at 3 ∙ it.1.place.2) ∙ version in cc in
    let same : it.0.0 ≡ v.place = λ i. record { shelf = one i; path = two i; version = three i } in
    let shows : ShowsVersion row it.0.0 (heading_of it.0.1) = record {
      shelf = at 1 ∙ it.1.place.0;
      path = at 2 ∙ it.1.place.1;
      version = at 3 ∙ it.1.place.2;
      time = at 4 ∙ it.1.time;
      gomod = at 5 ∙ it.1.gomod;
      order = at 6 ∙ it.1.keys.order;
      rank = at 7 ∙ it.1.keys.rank;
    } in
    let id : rowid found.0 ≡ Int v.id = sym (at 0) ∙ number in
    record {
      entry = it.0.1;
      there = subst (λ q. map.get w.entries q ≡ Some it.0.1) same it.2;
      number = ap (λ (r : Row). column r 0) own ∙ number;
      shows = subst (λ r. ShowsVersion r v.place (heading_of it.0.1)) (sym own)
          (subst (λ q. ShowsVersion row q (heading_of it.0.1)) same shows);
      zip = subst (λ n. ArePieces (filter (λ row. equal Binary (column row 1) n) (db.trees 8)) it.0.1.zip) id it.1.zip;
    }

-- ---- a piece

abbrev by_piece : List Term
by_piece = op2 (Compare Eq Binary) (col 1 1) (col 0 0) ∷ op2 (Compare Eq Binary) (col 1 2) (col 0 1) ∷ []

abbrev piece_shown : List Term
piece_shown = col 1 1 ∷ col 1 2 ∷ col 1 3 ∷ []

abbrev pub piece_query : Query
piece_query = lookup 8 by_piece piece_shown

nat_of : {a b : ℕ} → pos a ≡ pos b → a ≡ b
nat_of e = cc

module _ (id : ℤ) (n : ℕ) (db : Database) where
  abbrev pub piece_params : Row
  piece_params = Int id ∷ Int (pos n) ∷ []

  abbrev is_of : Row → Bool
  is_of row = equal Binary (column row 1) (Int id)

  found : (row : Option Row) → Picks piece_query piece_params db row
      → FirstFound (db.trees 8) by_piece piece_shown piece_params row
  found row picked = picked_found piece_params db 8 by_piece piece_shown [] (λ _. refl) row picked

  -- the row that is found shows the number and the bytes of the piece, or there is no such piece
  pub piece_row_found : (row : Option Row) → Picks piece_query piece_params db row → ShowsPieceRow db.trees id n row
  piece_row_found (Some row) picked = λ zip is.
      let it = found (Some row) picked in
      let sides = and_parts _ _ it.2 in
      let tie : equal Binary (column it.0 2) (Int (pos n)) ≡ true = (and_parts _ _ sides.1).0 in
      let own = is.each it.0 (has_kept is_of (db.trees 8) it.0 it.1 sides.0) in
      let same : own.0 ≡ n = nat_of
      (ints_equal (pos own.0) (pos n) (ap (λ v. equal Binary v (Int (pos n))) (sym own.1.number) ∙ tie)) in (
        subst (HasPiece zip) same own.2,
        ap (λ (r : Row). column r 1) it.3 ∙ (own.1.number ∙ ap (λ m. Int (pos m)) same),
        ap (λ (r : Row). column r 2) it.3 ∙ (own.1.bytes ∙ ap (λ m. Blob (piece zip m)) same),
      )
  piece_row_found None picked = λ zip is has.
      let from = is.found n has in
      let passed = has_filtered is_of (db.trees 8) from.0 from.1 in
      let passing : passes by_piece piece_params from.0 ≡ true =
      and_from _ _ passed.1 (and_from _ _
      (ap (λ v. equal Binary v (Int (pos n))) from.2.number ∙ int_itself (pos n)) refl) in
      true≢false (sym passing ∙ found None picked from.0 passed.0)

-- a row that was put in is that with the number of its version in the first place
pub piece_named : (row : Row) (db after : Trees) (id : ℤ) → column row 0 ≡ Int id → PutsPiece row db after
    → PutsPiece (Int id ∷ column row 1 ∷ column row 2 ∷ []) db after
piece_named row db after id first put = record {
  id = put.id;
  version = id;
  number = put.number;
  of_version = refl;
  numbered = put.numbered;
  put = rw first at put.put;
  sound = put.sound;
}

-- if there is no piece of this number, each piece has a lower number
pub none_after : (zip : List ℕ) (n : ℕ) → (HasPiece zip n → ⊥) → (k : ℕ) → HasPiece zip k → k < n
none_after zip n none k has = elim (cases_order k n) [
  | inl same ↦ absurd (none (subst (HasPiece zip) same has))
  | inr (inl less) ↦ less
  | inr (inr above) ↦ absurd (none (omega (arith, above, has)))
]

-- a piece that is shorter than others is the last
pub short_is_last : (zip : List ℕ) (n : ℕ) → length (piece zip n) < piece_size → (k : ℕ) → HasPiece zip k → k < n + 1
short_is_last zip n short k has = elim (cases_order k (n + 1)) [
  | inl same ↦ absurd (let full = piece_full zip n (subst (HasPiece zip) same has) in omega (arith, full, short))
  | inr (inl less) ↦ less
  | inr (inr above) ↦
      absurd (let next : HasPiece zip (n + 1) = omega (arith, above, has) in
      let full = piece_full zip n next in omega (arith, full, short))
]
