-- What the query of a piece answers, and zips that are put together or compared piece by piece.
use Rattle.std.proofs.Common.{◌≡◌, ◌≢◌, ◌≤◌, nat_eq, MatchOption, ◌<◌, ◌+◌, ◌==◌, ◌++◌, ℕ, ℤ, pos, Bool, true, false}
use Rattle.std.proofs.Common.{List, [], ◌∷◌, length}
use Rattle.std.proofs.Common.{length-append, append-nil, take, drop, Option, Some, None, refl, sym, ap, subst, ◌∙◌}
use Rattle.std.proofs.Common.{arith, true≢false}
use lib.Dec.{eqb-suc-zero}
use Rattle.std.specs.Prelude.{bytes_eq}
use Rattle.std.specs.Cmp.{unsigned_Decides}
use Rattle.std.specs.Cmp.Lexicographic.{pointwise}
use Rattle.std.proofs.lemmas.Slice.Eq.{strip_prefix_is}
use denote.Ref.{Bor}
use Rattle.std.proofs.Math.Seq.{take-add}
use Rattle.std.proofs.lemmas.List.{append_assoc, append_cancel_left, take-append-drop, take_all}
use Rattle.world.proofs.Orders.{text_same, text_self}
use Rattle.std.proofs.lemmas.Bool.{and_parts, and_from, false_from_ne_true}
use Rattle.sqlite.specs.declared.types.Value.{Value}
use Rattle.sqlite.specs.declared.types.Value.TheVariants.{Int, Blob}
use Rattle.sqlite.specs.Collation.TheVariants.{Binary}
use Rattle.sqlite_sql.specs.declared.ops.BinaryOp.TheVariants.{Compare}
use Rattle.sqlite_sql.specs.declared.ops.CompareOp.TheVariants.{Eq}
use Rattle.sqlite.specs.Order.{Row, column}
use Rattle.sqlite.specs.Term.{Term, col, op2}
use Rattle.sqlite.specs.Query.{Query}
use Rattle.sqlite.specs.Effect.{Database}
use Rattle.sqlite_schema.specs.Rules.{equal}
use Rattle.sqlite_rules.proofs.ListLemmas.{has_filtered, has_kept}
use Rattle.tables.specs.Pieces.{piece_size, begin, HasPiece, piece}
use Rattle.tables.proofs.ValueLemmas.{int_itself}
use Rattle.tables.proofs.SoundLemmas.{ints_equal}
use Rattle.statements.specs.Lookup.{lookup, passes, FirstFound}
use Rattle.statements.specs.Reading.{ShowsPiece}
use Rattle.statements.proofs.LookupLemmas.{Picks, picked_found}

-- ---- the query

abbrev by_number : List Term
by_number = op2 (Compare Eq Binary) (col 1 1) (col 0 0) ∷ op2 (Compare Eq Binary) (col 1 2) (col 0 1) ∷ []

abbrev pub piece_query : Query
piece_query = lookup 8 by_number (col 1 3 ∷ [])

nat_of : {a b : ℕ} → pos a ≡ pos b → a ≡ b
nat_of e = cc

abbrev is_of_number : ℤ → Row → Bool
is_of_number id row = equal Binary (column row 1) (Int id)

module _ (id : ℤ) (n : ℕ) (db : Database) where
  abbrev pub piece_params : Row
  piece_params = Int id ∷ Int (pos n) ∷ []

  found : (row : Option Row) → Picks piece_query piece_params db row
      → FirstFound (db.trees 8) by_number (col 1 3 ∷ []) piece_params row
  found row picked = picked_found piece_params db 8 by_number (col 1 3 ∷ []) [] (λ _. refl) row picked

  passes_number : (row : Row) → is_of_number id row ≡ true → column row 2 ≡ Int (pos n)
      → passes by_number piece_params row ≡ true
  passes_number row of_version is =
      and_from _ _ of_version (and_from _ _ (ap (λ v. equal Binary v (Int (pos n))) is ∙ int_itself (pos n)) refl)

  -- the query of a piece shows the piece of this number, or nothing if there is no such piece
  pub piece_shown : (row : Option Row) → Picks piece_query piece_params db row → ShowsPiece db.trees id n row
  piece_shown (Some row) picked = λ zip is.
      let it = found (Some row) picked in
      let sides = and_parts _ _ it.2 in
      let tie : equal Binary (column it.0 2) (Int (pos n)) ≡ true = (and_parts _ _ sides.1).0 in
      let own = is.each it.0 (has_kept (is_of_number id) (db.trees 8) it.0 it.1 sides.0) in
      let same : own.0 ≡ n = nat_of
      (ints_equal (pos own.0) (pos n) (ap (λ v. equal Binary v (Int (pos n))) (sym own.1.number) ∙ tie)) in (
        subst (HasPiece zip) same own.2,
        ap (λ (r : Row). column r 0) it.3
            ∙ (own.1.bytes ∙ ap (λ m. Blob (piece zip m)) same),
      )
  piece_shown None picked = λ zip is has.
      let from = is.found n has in
      let passed = has_filtered (is_of_number id) (db.trees 8) from.0 from.1 in
      true≢false (sym (passes_number from.0 passed.1 from.2.number) ∙ found None picked from.0 passed.0)

-- ---- a zip, piece by piece

-- the bytes before a piece, and then the piece, are the bytes before the next piece
pub next_piece : (zip : List ℕ) (n : ℕ) → take (begin n) zip ++ piece zip n ≡ take (begin (n + 1)) zip
next_piece zip n = sym (take-add (begin n) piece_size zip) ∙ ap (λ k. take k zip) (omega arith)

-- if there is no piece of this number, the bytes before it are the zip
pub no_more : (zip : List ℕ) (n : ℕ) → ¬ HasPiece zip n → take (begin n) zip ≡ zip
no_more zip n none = take_all (begin n) zip (not_below (begin n) (length zip) none)
  where
    not_below : (a b : ℕ) → ¬ (a < b) → b ≤ a
    not_below a b none = omega (arith, none)

-- bytes that begin as the zip does, up to this piece, and go on with the piece, begin as the zip does up to the next
-- piece
pub goes_on : (there given rest later : List ℕ) (n : ℕ) → given ≡ take (begin n) there ++ rest
    → rest ≡ piece there n ++ later → given ≡ take (begin (n + 1)) there ++ later
goes_on there given rest later n is split =
    is ∙ (ap (λ l. take (begin n) there ++ l) split
    ∙ (sym (append_assoc (take (begin n) there) (piece there n) later) ∙ ap (λ l. l ++ later) (next_piece there n)))

-- bytes that begin as the zip does, up to this piece, and go on otherwise, are not the zip
pub goes_off : (there given rest : List ℕ) (n : ℕ) → given ≡ take (begin n) there ++ rest
    → ((later : List ℕ) → rest ≡ piece there n ++ later → ⊥) → false ≡ bytes_eq there given
goes_off there given rest n is other = sym (false_from_ne_true (bytes_eq there given) (λ same.
    let whole : there ≡ given = text_same there given same in
    let after : rest ≡ drop (begin n) there =
    append_cancel_left (take (begin n) there) rest (drop (begin n) there)
    (sym is ∙ (sym whole ∙ sym (take-append-drop (begin n) there))) in
    other (drop piece_size (drop (begin n) there)) (after ∙ sym (take-append-drop piece_size (drop (begin n) there)))))

-- bytes that begin with all pieces of the zip are the zip exactly if nothing remains
pub all_there : (there given rest : List ℕ) (n : ℕ) → given ≡ take (begin n) there ++ rest → ¬ HasPiece there n
    → (length rest == 0) ≡ bytes_eq there given
all_there there given rest n is none = go rest (is ∙ ap (λ l. l ++ rest) (no_more there n none))
  where
    go : (rest : List ℕ) → given ≡ there ++ rest → (length rest == 0) ≡ bytes_eq there given
    go [] same = sym (ap (bytes_eq there) (same ∙ append-nil there) ∙ text_self there)
    go (x ∷ rest) same = eqb-suc-zero (length rest)
        ∙ sym (false_from_ne_true (bytes_eq there given)
        (λ h. let long = ap length (text_same there given h ∙ same) in let sum = length-append there (x ∷ rest) in
        omega (arith, long, sum)))

-- ---- bytes that are lent

pub bytes_same : {a b : List ℕ} → ◌≡◌ {A = Value} (Blob a) (Blob b) → a ≡ b
bytes_same e = cc

-- what `strip_prefix` returns: the rest of the bytes, or None
abbrev Stripped : List ℕ → List ℕ → Option (Bor (List ℕ)) → Type 0
Stripped s p r =
    MatchOption r (pointwise nat_eq (take (length p) s) p ≡ false)
    (λ x. (pointwise nat_eq (take (length p) s) p ≡ true) × (x.now ≡ drop (length p) s)
    × (length x.now + length p ≡ length s))

pub cut_off : (s p : List ℕ) (r : Option (Bor (List ℕ))) (x : Bor (List ℕ)) → r ≡ Some x → Stripped s p r
    → s ≡ p ++ x.now
cut_off s p r x is cases =
    subst (λ o. MatchOption o ((rest : List ℕ) → s ≢ p ++ rest) (λ y. s ≡ p ++ y.now)) is
    (strip_prefix_is unsigned_Decides s p r cases)

pub not_cut : (s p : List ℕ) (r : Option (Bor (List ℕ))) → r ≡ None → Stripped s p r → (rest : List ℕ) → s ≡ p ++ rest
    → ⊥
not_cut s p r is cases =
    subst (λ o. MatchOption o ((rest : List ℕ) → s ≢ p ++ rest) (λ y. s ≡ p ++ y.now)) is
    (strip_prefix_is unsigned_Decides s p r cases)
