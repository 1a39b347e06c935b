-- Names of shelves, times and digits are ASCII, so each is a text in UTF-8; and what `parse` reads of digits.
use Rattle.std.proofs.Common.{◌≡◌, ◌≢◌, ◌==◌, ◌<◌, ◌≤◌, ◌^◌, ℕ, Bool, true, false, not, cond, List, [], ◌∷◌, length}
use Rattle.std.proofs.Common.{get_or, codes, Option, Some, None, Result, Ok, Err, refl, sym, ap, subst, ◌∙◌, arith, inl, inr}
use Rattle.std.proofs.Common.{nat_lt, nat_eq}
use Rattle.std.specs.Prelude.{bytes_eq, ◌||◌, ◌&&◌, ◌⊎◌}
use Rattle.std.specs.Char.{is_ascii_digit}
use Rattle.std.specs.Int.{IsInRange}
use Rattle.std.specs.List.{list_all}
use Rattle.std.specs.Str.{IsAscii, IsUtf8}
use Rattle.std.specs.Str.Parse.{ParsesUnsigned, digits_value}
use Rattle.std.proofs.lemmas.Bool.{and_from, and_parts, cases_Bool, eq-eqb, eqb-true, lt-ltb, ltb-true, ne_eqb}
use Rattle.std.proofs.lemmas.Bool.{cases_lt, not_from_false, or_cases, or_left, or_right, true≢false}
use Rattle.std.proofs.lemmas.Bool.Decides.{nat_tests}
use Rattle.std.proofs.lemmas.Result.{OkIff-at_err, OkIff-at_ok}
use Rattle.std.proofs.lemmas.Str.{IsUtf8-from_ascii}
use Rattle.std.proofs.lemmas.Str.Ascii.{IsAscii-cons, IsAscii-nil}
use Rattle.std.proofs.lemmas.Str.Parse.{IsDigitsTest, IsNumeralModel, numerals_by_value, parse_digits}
use Rattle.modpath.specs.Path.{number_of}
use Rattle.modver.specs.Time.{fits_byte, fits_form, is_time}
use Rattle.modver.proofs.Times.{time-exact, time-form}
use Rattle.world.specs.Names.{is_name_byte, is_team_name}
use Rattle.world.specs.World.{common}
use Rattle.world.proofs.Orders.{text_same}
use Rattle.control.specs.Traffic.{is_shelf_name}

ascii_by : (p : ℕ → Bool) → ((b : ℕ) → p b ≡ true → b < 128) → (t : List ℕ) → list_all p t ≡ true → IsAscii t
ascii_by p small [] all = IsAscii-nil
ascii_by p small (b ∷ t) all =
    let sides = and_parts (p b) (list_all p t) all in
    IsAscii-cons b t (small b sides.0) (ascii_by p small t sides.1)

-- ---- names

name_byte : (c : ℕ) → is_name_byte c ≡ true → c < 128
name_byte c is = grind (arith, nat_tests)

shelf_utf8 : (name : List ℕ) → is_shelf_name name ≡ true → IsUtf8 name
shelf_utf8 name is = elim (or_cases (is_team_name name) (bytes_eq name common) is) [
  | inl team ↦ IsUtf8-from_ascii name (ascii_by is_name_byte name_byte name (and_parts _ _ (and_parts _ _ team).0).1)
  | inr same ↦ subst IsUtf8 (sym (text_same name common same))
      (IsUtf8-from_ascii common (ascii_by (λ b. nat_lt b 128) (λ b. ltb-true b 128) common refl))
]

pub no_shelf : (name : List ℕ) → ¬ (IsUtf8 name) → is_shelf_name name ≡ false
no_shelf name none = elim (cases_Bool (is_shelf_name name)) [
  | inl is ↦ absurd (none (shelf_utf8 name is))
  | inr fails ↦ fails
]

-- ---- times

digit_or_hex : (f c : ℕ) → f < 128 → fits_byte f c ≡ true → c < 128
digit_or_hex f c small is = grind (arith, nat_tests)

formed_ascii : (form t : List ℕ) → list_all (λ b. nat_lt b 128) form ≡ true → fits_form form t ≡ true → IsAscii t
formed_ascii [] [] small is = IsAscii-nil
formed_ascii [] (b ∷ t) small is = absurd (true≢false (sym is))
formed_ascii (f ∷ form) [] small is = absurd (true≢false (sym is))
formed_ascii (f ∷ form) (b ∷ t) small is =
    let first = and_parts _ _ small in
    let sides = and_parts _ _ is in
    IsAscii-cons b t (digit_or_hex f b (ltb-true f 128 first.0) sides.0) (formed_ascii form t first.1 sides.1)

pub no_time : (t : List ℕ) → ¬ (IsUtf8 t) → is_time t ≡ false
no_time t none = elim (cases_Bool (is_time t)) [
  | inl is ↦ absurd (none (IsUtf8-from_ascii t
      (formed_ascii (codes "dddd-dd-ddTdd:dd:ddZ") t refl (time-form t ((time-exact t).0 is)))))
  | inr fails ↦ fails
]

-- ---- digits

digit_range : (c : ℕ) → is_ascii_digit c ≡ true → IsInRange 48 57 c
digit_range c is = grind (arith, nat_tests)

range_digit : (c : ℕ) → IsInRange 48 57 c → is_ascii_digit c ≡ true
range_digit c is = grind (arith, nat_tests)

small_digit : (c : ℕ) → is_ascii_digit c ≡ true → c < 128
small_digit c is = grind (arith, nat_tests)

pub digits_utf8 : (ds : List ℕ) → list_all is_ascii_digit ds ≡ true → IsUtf8 ds
digits_utf8 ds all = IsUtf8-from_ascii ds (ascii_by is_ascii_digit small_digit ds all)

abbrev AreDigits : List ℕ → Type 0
AreDigits ds = list_all is_ascii_digit ds ≡ true

digits_test : IsDigitsTest AreDigits
digits_test = record {
  empty = refl;
  parts = λ c cs all.
      let both = and_parts (is_ascii_digit c) (list_all is_ascii_digit cs) all in (digit_range c both.0, both.1);
  more = λ c cs is all. and_from (is_ascii_digit c) (list_all is_ascii_digit cs) (range_digit c is) all;
}

own : IsNumeralModel AreDigits (digits_value 10)
own = numerals_by_value AreDigits digits_test

-- ---- the number of a text

abbrev leads : List ℕ → Bool
leads ds = not (get_or ds 0 0 == 48) || (length ds == 1)

abbrev counts : List ℕ → Bool
counts ds = nat_lt 0 (length ds) && list_all is_ascii_digit ds && leads ds && nat_lt (digits_value 10 ds) (2 ^ 64)

module _ (ds : List ℕ) where
  none_of : (counts ds ≡ true → ⊥) → number_of ds ≡ None
  none_of never = elim (cases_Bool (counts ds)) [
    | inl is ↦ absurd (never is)
    | inr fails ↦ ap (λ b. cond b (Some (digits_value 10 ds)) None) fails
  ]

  -- a zero leads more digits
  pub leading_zero : 1 < length ds → get_or ds 0 0 ≡ 48 → number_of ds ≡ None
  leading_zero many zero = none_of (λ is.
      let led : leads ds ≡ true = (and_parts _ _ (and_parts _ _ is).0).1 in
      let first : leads ds ≡ (length ds == 1) =
      ap (λ b. not b || (length ds == 1)) (eq-eqb (get_or ds 0 0) 48 zero) in
      let one = eqb-true (length ds) 1 (sym first ∙ led) in
      omega (arith, many, one))

  leads_none : (1 < length ds → get_or ds 0 0 ≢ 48) → 0 < length ds → leads ds ≡ true
  leads_none apart some = elim (cases_lt 1 (length ds)) [
    | inl many ↦ or_left _ _ (not_from_false _ (ne_eqb (get_or ds 0 0) 48 (apart many)))
    | inr few ↦ or_right _ _ (eq-eqb (length ds) 1 (omega (arith, few, some)))
  ]

  module _ {E : Type 0} (r : Result ℕ E) (all : list_all is_ascii_digit ds ≡ true)
      (apart : 1 < length ds → get_or ds 0 0 ≢ 48) (parses : ParsesUnsigned 64 10 ds r) where
    pub parsed_number : (n : ℕ) → r ≡ Ok n → number_of ds ≡ Some n
    parsed_number n is =
        let at = OkIff-at_ok r ((0 < length ds) × (digits_value 10 ds < 2 ^ 64)) (digits_value 10 ds) n
        (parse_digits own 64 ds r parses all) is in
        let passes : counts ds ≡ true =
        and_from _ _ (and_from _ _ (and_from _ _ (lt-ltb 0 (length ds) at.0.0) all) (leads_none apart at.0.0))
        (lt-ltb (digits_value 10 ds) (2 ^ 64) at.0.1) in
        ap (λ b. cond b (Some (digits_value 10 ds)) None) passes ∙ ap (λ m. Some m) (sym at.1)

    pub parsed_none : (e : E) → r ≡ Err e → number_of ds ≡ None
    parsed_none e is = none_of (λ passes.
        let outer = and_parts _ _ passes in
        let some = ltb-true 0 (length ds) (and_parts _ _ (and_parts _ _ outer.0).0).0 in
        OkIff-at_err r ((0 < length ds) × (digits_value 10 ds < 2 ^ 64)) (digits_value 10 ds) e
        (parse_digits own 64 ds r parses all) is (some, ltb-true (digits_value 10 ds) (2 ^ 64) outer.1))
