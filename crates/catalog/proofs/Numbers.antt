-- The decimal text of a number is a number of JSON.
use Rattle.std.proofs.Common.{◌≡◌, ◌<◌, ◌≤◌, ◌^◌, ◌++◌, ◌∙◌, ℕ, true, List, [], ◌∷◌, inl, inr}
use Rattle.std.proofs.Common.{refl, sym, subst, ap, arith}
use Rattle.std.specs.Prelude.{◌/◌, ◌%◌, ◌+◌, codes}
use Rattle.std.specs.Char.{is_ascii_digit}
use Rattle.std.specs.Fmt.{decimal}
use Rattle.std.specs.List.{list_all}
use Rattle.std.proofs.lemmas.Bool.{and_from, cases_lt}
use Rattle.std.proofs.lemmas.Bool.Decides.{nat_tests}
use Rattle.std.proofs.lemmas.Fmt.{decimal_by_steps}
use Rattle.std.proofs.lemmas.List.Folds.{list_all-append}
use Rattle.catalog.specs.Json.{IsInt, positive, zero as naught}

-- a digit from 1 to 9, and then digits
pub record StartsAboveZero (text : List ℕ) : Type 0 where
  pub first : ℕ
  pub others : List ℕ
  pub low : 49 ≤ first
  pub high : first ≤ 57
  pub digits : list_all is_ascii_digit others ≡ true
  pub spelled : text ≡ first ∷ others

abbrev Writes : ℕ → List ℕ → Type 0
Writes n text = (n ≡ 0 → text ≡ codes "0") × (0 < n → StartsAboveZero text)

digit : (n : ℕ) → is_ascii_digit (48 + n % 10) ≡ true
digit n = grind (arith, nat_tests)

one_digit : (n : ℕ) → n < 10 → Writes n ((48 + n) ∷ [])
one_digit n small = (
  λ none. ap (λ k. (48 + k) ∷ []) none,
  λ some. record {
    first = 48 + n;
    others = [];
    low = omega arith;
    high = omega arith;
    digits = refl;
    spelled = refl;
  },
)

longer : (n : ℕ) (ds : List ℕ) → StartsAboveZero ds → StartsAboveZero (ds ++ (48 + n % 10) ∷ [])
longer n ds front = record {
  first = front.first;
  others = front.others ++ (48 + n % 10) ∷ [];
  low = front.low;
  high = front.high;
  digits = list_all-append is_ascii_digit front.others ((48 + n % 10) ∷ [])
      ∙ and_from _ _ front.digits (and_from _ _ (digit n) refl);
  spelled = ap (λ l. l ++ (48 + n % 10) ∷ []) front.spelled;
}

more_digits : (n : ℕ) (ds : List ℕ) → 10 ≤ n → Writes (n / 10) ds → Writes n (ds ++ ((48 + n % 10) ∷ []))
more_digits n ds large before = (
  λ none. absurd (omega arith),
  λ some. longer n ds (before.1 (omega arith)),
)

-- the text of a number of at most 64 bits
pub decimal_is_int : (n : ℕ) → n < 2 ^ 64 → IsInt (decimal n)
decimal_is_int n small =
    let writes = decimal_by_steps Writes one_digit more_digits n small in
    elim (cases_lt 0 n) [
      | inl some ↦
          let it = writes.1 some in
          subst IsInt (sym it.spelled) (positive it.first it.others it.low it.high it.digits)
      | inr none ↦ subst IsInt (sym (writes.0 (omega arith))) naught
    ]
