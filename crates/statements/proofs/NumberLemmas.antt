-- What the queries of a number answer.
use Rattle.std.proofs.Common.{◌≡◌, ◌<ℤ◌, ◌-ℤ◌, ℤ, pos, true, false, List, [], ◌∷◌, ◌++◌, map as mapped, Option, Some}
use Rattle.std.proofs.Common.{None, is_some, inl, inr}
use Rattle.std.proofs.Common.{refl, sym, ap, subst, ◌∙◌, true≢false, Decides, SomeIff, FitsSigned, w64, IsPermutation}
use Rattle.std.proofs.Common.{arith, MatchOption}
use Rattle.std.specs.Ordering.{is_lt, is_gt, ordering_reverse, int_cmp}
use Rattle.std.specs.declared.cmp.Ordering.{Ordering}
use Rattle.std.specs.declared.cmp.Ordering.TheVariants.{Less, Equal, Greater}
use Rattle.std.specs.Cmp.{upto, int_cmp_is}
use Rattle.std.proofs.lemmas.Int.{by_lt_z, ints}
use Rattle.std.proofs.lemmas.Bool.{and_parts}
use Rattle.std.proofs.lemmas.List.Sorted.{IsPermutation-sym}
use Rattle.sqlite.specs.declared.types.Value.TheVariants.{Null, Int}
use Rattle.sqlite.specs.Collation.TheVariants.{Binary}
use Rattle.sqlite_sql.specs.declared.ops.BinaryOp.TheVariants.{Compare}
use Rattle.sqlite_sql.specs.declared.ops.CompareOp.TheVariants.{Eq}
use Rattle.sqlite_value.specs.Order.{value_cmp}
use Rattle.sqlite_value.proofs.OrderLemmas.{value_cmp-Int, value_cmp_total, then-Equal}
use Rattle.sqlite.specs.Order.{Row, column}
use Rattle.sqlite.specs.Term.{Term, col, op2}
use Rattle.sqlite.specs.Tree.{Trees, rowid}
use Rattle.sqlite.specs.Query.{Query, inner, end}
use Rattle.sqlite.specs.Program.{overlay}
use Rattle.sqlite.specs.Effect.{Database, Reads, ReadsFirst}
use Rattle.sqlite_schema.specs.Rules.{equal}
use Rattle.sqlite_rules.specs.Lists.{Has}
use Rattle.sqlite_rules.proofs.ListLemmas.{all_has}
use Rattle.sqlite_rules.proofs.ProbeLemmas.{mapped_has, has_mapped}
use Rattle.tables.specs.Fit.{number_shown}
use Rattle.tables.proofs.Ascending.{Adjacent, ascends, adjacent_among, has_permuted}
use Rattle.tables.proofs.ListingLemmas.{listing, IsListing, is_listing, by_number, listed_rows, of_table}
use Rattle.tables.proofs.ListingLemmas.{listed_in_order}
use Rattle.tables.proofs.SoundLemmas.{ints_equal}
use Rattle.tables.proofs.ValueLemmas.{int_itself}
use Rattle.statements.specs.Lookup.{lookup}
use Rattle.statements.specs.Numbers.{last, first, HasNumber, IsBelowEach, LacksOrHasFirst, IsChosen}
use Rattle.statements.proofs.LookupLemmas.{asks, Picks, picked_found}

abbrev by_id : List Term
by_id = op2 (Compare Eq Binary) (col 1 0) (col 0 0) ∷ []

abbrev pub last_query : Query
last_query = lookup 6 by_id (col 1 0 ∷ [])

abbrev pub numbers_query : Query
numbers_query = listing (inner 6 end) (col 1 0 ∷ []) by_number

-- the first row of an answer to the query shows the number; None: the answer is empty
abbrev pub PicksNumber : Query → Row → Database → Option ℤ → Type 0
PicksNumber q params db (Some n) = (row : Row) × Picks q params db (Some row) × (column row 0 ≡ Int n)
PicksNumber q params db None = Picks q params db None

-- ---- the last number

pub last_found : (db : Database) (found : Option ℤ) → PicksNumber last_query (Int last ∷ []) db found
    → Decides (is_some found) (HasNumber (db.trees 6) last)
last_found db (Some n) shows =
    let it = picked_found (Int last ∷ []) db 6 by_id (col 1 0 ∷ []) [] (λ _. refl) (Some shows.0) shows.1 in
    let id : rowid it.0 ≡ Int n = sym (ap (λ (r : Row). column r 0) it.3) ∙ shows.2 in
    let same : n ≡ last = ints_equal n last (sym (ap (λ v. equal Binary v (Int last)) id) ∙ (and_parts _ _ it.2).0) in
    (λ _. (it.0, it.1, id ∙ ap Int same), λ _. refl)
last_found db None shows =
    let none = picked_found (Int last ∷ []) db 6 by_id (col 1 0 ∷ []) [] (λ _. refl) None shows in (
      λ e. absurd (true≢false (sym e)),
      λ has.
          absurd (true≢false (sym (rw (has.2, int_itself last) refl) ∙ none has.0 has.1)),
    )

-- ---- the lowest number

not_above : (r : Ordering) → is_gt (ordering_reverse r) ≡ is_lt r
not_above Less = refl
not_above Equal = refl
not_above Greater = refl

-- the second is not below the first
abbrev Upto : Row → Row → Type 0
Upto a b = is_lt (value_cmp (column b 0) (column a 0)) ≡ false

upto_then : (a b c : Row) → Upto a b → Upto b c → Upto a c
upto_then a b c one two =
    let turned = λ (x y : Row). ap is_gt (value_cmp_total.antisymm (column x 0) (column y 0))
    ∙ not_above (value_cmp (column y 0) (column x 0)) in
    sym (turned a c) ∙ upto value_cmp_total (column a 0) (column b 0) (column c 0) (turned a b ∙ one) (turned b c ∙ two)

below_less : (m n : ℤ) → m <ℤ n → is_lt (int_cmp m n) ≡ true
below_less m n h = ap is_lt (sym (int_cmp_is m n Less h))

module _ (db : Trees) (n : ℤ) (row : Row) (tail : List Row) (it : IsListing numbers_query (overlay db []) (row ∷ tail))
    (shown : column row 0 ≡ Int n) where
  in_order : Adjacent Upto (row ∷ tail)
  in_order =
      adjacent_among _ Upto (row ∷ tail) (λ a b here there h. sym (ap is_lt (then-Equal _)) ∙ h)
      (listed_in_order numbers_query (overlay db []) (row ∷ tail) it (λ row. column row 0 ∷ []) (λ env. refl))

  none_lower : (r : Row) → Has (db 6) r → (m : ℤ) → rowid r ≡ Int m → m <ℤ n → ⊥
  none_lower r there m is below =
      let same = subst (λ l. IsPermutation l (row ∷ tail)) (of_table 6 (col 1 0 ∷ []) (overlay db []))
      (listed_rows (inner 6 end) (col 1 0 ∷ []) by_number (overlay db []) (row ∷ tail) it) in
      let listed = has_permuted (row ∷ tail) (mapped number_shown (db 6)) (number_shown r) (IsPermutation-sym _ _ same)
      (mapped_has number_shown (db 6) r there) in
      elim listed [
        | inl here ↦ (let e : Int m ≡ Int n = sym is
            ∙ (ap (λ (x : Row). column x 0) here ∙ shown) in let f : m ≡ n = cc in omega (arith, ints, below, f))
        | inr later ↦ (let h = all_has (Upto row) tail (number_shown r) (ascends Upto upto_then (row ∷ tail) in_order).0
            later in
            true≢false (sym (below_less m n below) ∙ (ap is_lt (sym (value_cmp-Int m n)) ∙ (rw (is, shown) at h))))
      ]

abbrev listed : Trees → List Row → Type 0
listed db out = IsListing numbers_query (overlay db []) out

all_listed : (db : Database) (out : List Row) → Reads (asks numbers_query) db [] out → listed db.trees out
all_listed db out read = is_listing (inner 6 end) (col 1 0 ∷ []) by_number (overlay db.trees []) out (read.answer Null)

begun_listed : (db : Database) (rows : List Row) → ReadsFirst (asks numbers_query) db [] rows
    → (tail : List Row) × listed db.trees (rows ++ tail)
begun_listed db rows h = let got = h.1 in
    (got.0, is_listing (inner 6 end) (col 1 0 ∷ []) by_number (overlay db.trees []) (rows ++ got.0) (got.1 Null))

none_listed : (db : Trees) → listed db [] → (row : Row) → Has (db 6) row → ⊥
none_listed db it row there =
    let same = subst (λ l. IsPermutation l []) (of_table 6 (col 1 0 ∷ []) (overlay db []))
    (listed_rows (inner 6 end) (col 1 0 ∷ []) by_number (overlay db []) [] it) in
    has_permuted [] (mapped number_shown (db 6)) (number_shown row) (IsPermutation-sym _ _ same)
    (mapped_has number_shown (db 6) row there)

-- the first number that is shown is the number of a row
shown_has : (db : Trees) (n : ℤ) (row : Row) (tail : List Row) → listed db (row ∷ tail) → column row 0 ≡ Int n
    → HasNumber (db 6) n
shown_has db n row tail it shown =
    let same = subst (λ l. IsPermutation l (row ∷ tail)) (of_table 6 (col 1 0 ∷ []) (overlay db []))
    (listed_rows (inner 6 end) (col 1 0 ∷ []) by_number (overlay db []) (row ∷ tail) it) in
    let of = has_mapped number_shown (db 6) row
    (has_permuted (mapped number_shown (db 6)) (row ∷ tail) row same (inl refl)) in
    (of.0, of.1, sym (ap (λ (x : Row). column x 0) of.2) ∙ shown)

-- one less than the lowest number is less than the number of each row
below_found : (db : Database) (n k : ℤ) → PicksNumber numbers_query [] db (Some n) → k ≡ n -ℤ pos 1
    → IsBelowEach (db.trees 6) k
below_found db n k shows is row there m has =
    let got = begun_listed db (shows.0 ∷ []) shows.1 in
    by_lt_z m n (λ below. absurd (none_lower db.trees n shows.0 got.0 got.1 shows.2 row there m has below))
    (λ upto. omega (arith, ints, is, upto))

-- if the lowest number is the first that a row can have, a row has it
first_found : (db : Database) (n : ℤ) → PicksNumber numbers_query [] db (Some n) → n ≡ first
    → LacksOrHasFirst (db.trees 6)
first_found db n shows is m has =
    let got = begun_listed db (shows.0 ∷ []) shows.1 in
    subst (HasNumber (db.trees 6)) is (shown_has db.trees n shows.0 got.0 got.1 shows.2)

first_alone : (n : ℤ) → FitsSigned w64 n → (FitsSigned w64 (n -ℤ pos 1) → ⊥) → n ≡ first
first_alone n fits out =
    by_lt_z first n (λ above. absurd (out (omega (arith, ints, fits, above)))) (λ upto. omega (arith, ints, fits, upto))

pub one_less : (db : Database) (n : ℤ) (less : Option ℤ) → FitsSigned w64 n → PicksNumber numbers_query [] db (Some n)
    → SomeIff less (FitsSigned w64 (n -ℤ pos 1)) (n -ℤ pos 1)
    → MatchOption less (LacksOrHasFirst (db.trees 6)) (IsBelowEach (db.trees 6))
one_less db n None fits shows out = first_found db n shows (first_alone n fits out)
one_less db n (Some k) fits shows is = below_found db n k shows is.1

pub lacks_found : (db : Database) → PicksNumber numbers_query [] db None → LacksOrHasFirst (db.trees 6)
lacks_found db shows m has = absurd (none_listed db.trees (all_listed db [] shows) has.0 has.1)

-- ---- the number that is chosen

pub chosen_below : (rows : List Row) (number : Option ℤ) → HasNumber rows last
    → MatchOption number (LacksOrHasFirst rows) (IsBelowEach rows) → IsChosen rows number
chosen_below rows None has first_too = first_too last
chosen_below rows (Some n) has below = (has, below)
