-- The zip of a version, read in one walk over the rows of its pieces.
use Rattle.std.proofs.Common.{◌≡◌, ◌<◌, ◌+◌, ◌++◌, ℕ, ℤ, pos, Bool, false, List, [], ◌∷◌, take, inl, inr, refl, sym, ap}
use Rattle.std.proofs.Common.{subst, ◌∙◌, codes, arith, IsTrue}
use Rattle.std.proofs.lemmas.Bool.{and_parts, and_from}
use Rattle.sqlite.specs.declared.types.Value.{Value}
use Rattle.sqlite.specs.declared.types.Value.TheVariants.{Int, Blob}
use Rattle.sqlite.specs.Collation.TheVariants.{Binary}
use Rattle.sqlite_sql.specs.declared.ops.BinaryOp.TheVariants.{Compare}
use Rattle.sqlite_sql.specs.declared.ops.CompareOp.TheVariants.{Eq}
use Rattle.sqlite.specs.Order.{Row, column}
use Rattle.sqlite.specs.Term.{Term, col, op2}
use Rattle.sqlite.specs.Query.{Query}
use Rattle.sqlite.specs.Effect.{Database, Reads, ReadsFirst}
use Rattle.sqlite.specs.Listing.{understood, reads_listing}
use Rattle.sqlite.specs.Command.TheVariants.{Select}
use Rattle.sqlite.specs.State.{State, HasCleanDisk, Survives, CommitsShowing, Shown, Begins}
use Rattle.sqlite.proofs.Callers.{IsPlain, command_of, never_commits, reads_as, begins_as}
use Rattle.sqlite_tied.specs.Compute.{everything}
use Rattle.sqlite_schema.specs.Rules.{equal}
use Rattle.sqlite_rules.specs.Lists.{Has}
use Rattle.sqlite_rules.proofs.ListLemmas.{has_filtered, has_kept}
use Rattle.world.specs.World.{World}
use Rattle.tables.specs.Schema.{store_schema}
use Rattle.tables.specs.Means.{Stands}
use Rattle.tables.specs.Pieces.{begin, HasPiece, piece}
use Rattle.tables.proofs.FailureLemmas.{IsUnchangedOrUndone, was_clean}
use Rattle.tables.proofs.FitTests.{at_index}
use Rattle.tables.proofs.ListingLemmas.{by_piece}
use Rattle.statements.specs.Calls.{Spares}
use Rattle.statements.specs.Reading.{IsZip}
use Rattle.statements.proofs.CallLemmas.{stands_still}
use Rattle.statements.proofs.LookupLemmas.{ordered, asks, all_found, begun_found}
use Rattle.statements.proofs.PieceLemmas.{next_piece, no_more, bytes_same}

-- ---- the query

abbrev pub of_version : List Term
of_version = op2 (Compare Eq Binary) (col 1 1) (col 0 0) ∷ []

abbrev pub shown : List Term
shown = col 1 2 ∷ col 1 3 ∷ []

abbrev zip_query : Query
zip_query = ordered 8 of_version shown by_piece

-- the text of the statement, which the invariant of the walk names
abbrev pub zip_text : List ℕ
zip_text = codes "SELECT number, bytes FROM piece WHERE version = ?1 ORDER BY version, number"

zip_is : command_of (understood store_schema zip_text)
    ≡ Select (record { lets = []; body = zip_query }) (codes "number" ∷ codes "bytes" ∷ [])
unfolding understood everything
zip_is = refl

pub zip_plain : IsPlain (understood store_schema zip_text)
unfolding understood everything
zip_plain = (refl, refl)

zip_tables : reads_listing store_schema zip_text ≡ false
unfolding understood everything
zip_tables = refl

-- ---- the rows of a version

abbrev pub is_of_number : ℤ → Row → Bool
is_of_number id row = equal Binary (column row 1) (Int id)

pub int_same : {a b : ℕ} → ◌≡◌ {A = Value} (Int (pos a)) (Int (pos b)) → a ≡ b
int_same e = cc

-- each row so far has a number below this
abbrev pub AreBelow : List Row → ℕ → Type 0
AreBelow rows n = (row : Row) → Has rows row → (k : ℕ) × (k < n) × (column row 0 ≡ Int (pos k))

-- what a row shows as the piece of this number
abbrev pub IsShownAs : Row → ℕ → List ℕ → Type 0
IsShownAs row n bytes = (column row 0 ≡ Int (pos n)) × (column row 1 ≡ Blob bytes)

pub below_more : (rows : List Row) (row : Row) (n : ℕ) → AreBelow rows n → column row 0 ≡ Int (pos n)
    → AreBelow (rows ++ row ∷ []) (n + 1)
below_more [] row n below is x (inl same) = (n, omega arith, ap (λ (r : Row). column r 0) same ∙ is)
below_more [] row n below is x (inr none) = absurd none
below_more (r ∷ rows) row n below is x (inl same) = let it = below x (inl same) in
    (it.0, let low = it.1 in omega (arith, low), it.2)
below_more (r ∷ rows) row n below is x (inr later) = below_more rows row n (λ y there. below y (inr there)) is x later

abbrev pub zip_params : ℤ → Row
zip_params id = Int id ∷ []

module _ (id : ℤ) (db : Database) where
  -- a row that comes next, and shows the next number, shows the zip's piece of that number
  row_shown : (rows : List Row) (row : Row) (n : ℕ) (bytes zip : List ℕ)
      → ReadsFirst (asks zip_query) db (zip_params id) (rows ++ row ∷ [])
      → IsShownAs row n bytes → IsZip db.trees id zip → bytes ≡ piece zip n
  row_shown rows row n bytes zip first shows is =
      let begun = begun_found (zip_params id) db 8 of_version shown by_piece (λ _. refl) (rows ++ row ∷ []) first in
      let it = begun.1.sound row (at_index rows begun.0 row) in
      let own = is.each it.0 (has_kept (is_of_number id) (db.trees 8) it.0 it.1 (and_parts _ _ it.2).0) in
      let same : own.0 ≡ n = int_same (sym own.1.number ∙ (sym (ap (λ (r : Row). column r 0) it.3) ∙ shows.0)) in
      bytes_same (sym shows.1 ∙ (ap (λ (r : Row). column r 1) it.3 ∙ (own.1.bytes ∙ ap (λ m. Blob (piece zip m)) same)))

  -- if no row is left, there is no piece of the next number
  none_left : (rows : List Row) (n : ℕ) (zip : List ℕ) → Reads (asks zip_query) db (zip_params id) rows
      → AreBelow rows n → IsZip db.trees id zip → ¬ HasPiece zip n
  none_left rows n zip all below is has =
      let found = all_found (zip_params id) db 8 of_version shown by_piece (λ _. refl) rows all in
      let from = is.found n has in
      let passed = has_filtered (is_of_number id) (db.trees 8) from.0 from.1 in
      let it = below _ (found.complete from.0 passed.0 (and_from _ _ passed.1 refl)) in
      let same : it.0 ≡ n = int_same (sym it.2 ∙ from.2.number) in
      let low = it.1 in
      omega (arith, same, low)

module _ (id : ℤ) (old s t : State) (has : s.now.schema ≡ store_schema) (same : s.now ≡ old.now) where
  pub one_more_piece : (rows : List Row) (row : Row) (n : ℕ) (bytes zip : List ℕ)
      → Begins zip_text (zip_params id) s (rows ++ row ∷ [])
      → IsShownAs row n bytes → IsZip old.now.trees id zip → take (begin n) zip ++ bytes ≡ take (begin (n + 1)) zip
  one_more_piece rows row n bytes zip begins shows is =
      let first = subst (λ db. ReadsFirst (asks zip_query) db (zip_params id) (rows ++ row ∷ [])) same
      (begins_as zip_text (zip_params id) s s store_schema has _ zip_is zip_plain zip_tables (rows ++ row ∷ [])
      begins) in
      ap (λ l. take (begin n) zip ++ l) (row_shown id old.now rows row n bytes zip first shows is) ∙ next_piece zip n

  pub whole_zip : (rows : List Row) (n : ℕ) (zip : List ℕ) → Shown zip_text (zip_params id) s t rows → AreBelow rows n
      → IsZip old.now.trees id zip → take (begin n) zip ≡ zip
  whole_zip rows n zip all below is =
      let read = subst (λ db. Reads (asks zip_query) db (zip_params id) rows) same
      (reads_as zip_text (zip_params id) s t store_schema has _ zip_is zip_plain zip_tables rows all) in
      no_more zip n (none_left id old.now rows n zip read below is)

-- ---- a query that is asked of a connection that is open

module _ (sql : List ℕ) (params : Row) (plain : IsPlain (understood store_schema sql)) (old new : State)
    (opened : HasCleanDisk old → IsTrue old.is_open) (survives : Survives old new (CommitsShowing sql params old)) where
  pub plain_then : (w : World) → Stands old w → HasCleanDisk new → IsPlain (understood old.now.schema sql)
  plain_then w stands clean = let was = was_clean old new survives.clean clean in
      subst (λ s. IsPlain (understood s sql)) (sym (stands was (opened was)).schema) plain

  pub asked_spares : (HasCleanDisk new → IsPlain (understood old.now.schema sql) → IsUnchangedOrUndone old new)
      → Spares old new
  asked_spares outcome = record {
    clean = survives.clean;
    stays = λ w stands. stands_still old new w survives.clean (λ clean. outcome clean (plain_then w stands clean))
        stands;
    left = λ clean w stands db may.
        elim (survives.crash clean db may) [
          | inl was ↦ was
          | inr commits ↦ absurd (never_commits sql params old db (plain_then w stands clean) commits)
        ];
  }
