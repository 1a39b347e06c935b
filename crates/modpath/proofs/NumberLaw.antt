-- The number of a text is n exactly if the text is the decimal of n.
use Rattle.std.proofs.Common.{◌≡◌, ◌==◌, ◌||◌, ◌<◌, ◌^◌, ℕ, List, [], ◌∷◌, length, get_or, Some, None, Bool, true}
use Rattle.std.proofs.Common.{false, not, if◌then◌else◌, refl, sym, ap, ◌∙◌, inl, inr, arith, subst}
use Rattle.std.proofs.lemmas.Bool.{and_from, and_parts, cases_eq, eq-eqb, eqb-true, lt-ltb, ltb-true, ne_eqb}
use Rattle.std.proofs.lemmas.Bool.{not_from_false, or_left}
use Rattle.std.proofs.lemmas.Bool.Decides.{nat_tests}
use Rattle.std.proofs.lemmas.Fmt.{decimal-digits_value, decimal_digit, decimal_nonempty, digits_decimal}
use Rattle.std.proofs.lemmas.Fmt.{digits_value-decimal, first_decimal}
use Rattle.std.proofs.lemmas.Str.Parse.{IsDigitsTest, IsNumeralModel, numerals_by_value}
use Rattle.std.specs.Char.{is_ascii_digit}
use Rattle.std.specs.Fmt.{decimal}
use Rattle.std.specs.Int.{IsInRange}
use Rattle.std.specs.List.{list_all}
use Rattle.std.specs.Str.Parse.{digits_value}
use Rattle.modpath.specs.Path.{number_of}
use Rattle.modpath.specs.PathLaws.{NumbersAreExact}

abbrev AreDigits : List ℕ → Type 0
AreDigits ds = list_all is_ascii_digit ds ≡ true

digit-range : (c : ℕ) → is_ascii_digit c ≡ true → IsInRange 48 57 c
digit-range c h = grind (arith, nat_tests)

range-digit : (c : ℕ) → IsInRange 48 57 c → is_ascii_digit c ≡ true
range-digit c h = grind (arith, nat_tests)

digits_test : IsDigitsTest AreDigits
digits_test = record {
  empty = refl;
  parts = λ c cs h. let p = and_parts (is_ascii_digit c) (list_all is_ascii_digit cs) h in (digit-range c p.0, p.1);
  more = λ c cs d h. and_from (is_ascii_digit c) (list_all is_ascii_digit cs) (range-digit c d) h;
}

own : IsNumeralModel AreDigits (digits_value 10)
own = numerals_by_value AreDigits digits_test

if-some : (b : Bool) (v n : ℕ) → (if b then Some v else None) ≡ Some n → (b ≡ true) × (v ≡ n)
if-some true v n h = (refl, cc h)
if-some false v n h = cc h

-- the decimal of a number of at most 64 bits has only digits
pub decimal-digits : (n : ℕ) → n < 2 ^ 64 → list_all is_ascii_digit (decimal n) ≡ true
decimal-digits n h = digits_decimal own n h

-- and none of them leads with a zero, except zero itself
no-zero : (n : ℕ) → n < 2 ^ 64 → (not (get_or (decimal n) 0 0 == 48) || (length (decimal n) == 1)) ≡ true
no-zero n h = elim (cases_eq n 0) [
  | inl z ↦
      let d : decimal n ≡ 48 ∷ [] = ap decimal z ∙ decimal_digit 0 (omega arith) in
      rw d refl
  | inr some ↦
      let large : 48 < get_or (decimal n) 0 0 = first_decimal n (omega arith) h in
      or_left _ _ (not_from_false _ (ne_eqb (get_or (decimal n) 0 0) 48 (λ e. absurd (omega (arith, e)))))
]

-- a text whose number is n is the decimal of n, and n has at most 64 bits
number-to : (ds : List ℕ) (n : ℕ) → number_of ds ≡ Some n → (ds ≡ decimal n) × (n < 2 ^ 64)
number-to ds n h =
    let i = if-some _ _ _ h in
    let a = and_parts _ _ i.0 in
    let b = and_parts _ _ a.0 in
    let c = and_parts _ _ b.0 in
    let bound : digits_value 10 ds < 2 ^ 64 = ltb-true _ _ a.1 in
    let one : get_or ds 0 0 ≡ 48 → length ds ≡ 1 = λ e. leading (get_or ds 0 0) (length ds) b.1 e in
    let d : decimal (digits_value 10 ds) ≡ ds = decimal-digits_value own ds c.1 (ltb-true _ _ c.0) one bound in
    (sym d ∙ ap decimal i.1, subst (λ v. v < 2 ^ 64) i.1 bound)
  where
    leading : (first len : ℕ) → (not (first == 48) || (len == 1)) ≡ true → first ≡ 48 → len ≡ 1
    leading first len t e = let z : (first == 48) ≡ true = eq-eqb first 48 e in eqb-true len 1 (rw z at t)

number-from : (ds : List ℕ) (n : ℕ) → ds ≡ decimal n → n < 2 ^ 64 → number_of ds ≡ Some n
number-from ds n e h =
    let value : digits_value 10 (decimal n) ≡ n = digits_value-decimal own n h in
    let some = lt-ltb 0 (length (decimal n)) (decimal_nonempty n h) in
    let bound = lt-ltb n (2 ^ 64) h in
    rw (e, some, decimal-digits n h, no-zero n h, value, bound) refl

pub numbers_are_exact : NumbersAreExact
numbers_are_exact digits n = (number-to digits n, λ p. number-from digits n p.0 p.1)
