-- The test of tilde numbers passes exactly the names that end with a tilde and digits.
use Rattle.std.proofs.Common.{◌≡◌, ◌<◌, ◌≤◌, ◌++◌, ◌+◌, ◌-◌, ℕ, suc, List, [], ◌∷◌, length, get_or, take, drop, reverse}
use Rattle.std.proofs.Common.{true}
use Rattle.std.proofs.Common.{false, refl, sym, ap, ◌∙◌, inl, inr, arith, length-append, length-drop, get_or-drop}
use Rattle.std.proofs.Common.{append_assoc}
use Rattle.std.proofs.lemmas.Bool.{and_parts, eqb-true, lt-ltb, ltb-true, cases_lt}
use Rattle.std.proofs.lemmas.List.{drop_more, get_or-append_right, get_or-reverse, get_or_at, length-reverse}
use Rattle.std.proofs.lemmas.List.{take-append-drop}
use Rattle.std.proofs.lemmas.List.Elements.{All-from_get_or, All-get_or}
use Rattle.std.proofs.lemmas.List.Sums.{prefix_len_passes, suffix_len-le-length, suffix_len_is}
use Rattle.std.specs.Char.{is_ascii_digit}
use Rattle.std.specs.List.{All, suffix_len}
use Rattle.std.specs.Prelude.{IsTrue}
use Rattle.modpath.specs.ModulePath.{EndsInTildeNumber}
use Rattle.modpath.specs.Path.{has_tilde_number}
use Rattle.modpath.specs.PathLaws.{TildeNumbersAreExact}

-- each of the longest digits that end a name is a digit
suffix-passes : (name : List ℕ) (i : ℕ) → i < length name → length name - suffix_len is_ascii_digit name ≤ i
    → is_ascii_digit (get_or name i 0) ≡ true
suffix-passes name i lt le =
    let n : length (reverse name) ≡ length name = length-reverse name in
    let j : ℕ = length name - 1 - i in
    let back : length name - 1 - j ≡ i = omega arith in
    let in' : j < suffix_len is_ascii_digit name = omega arith in
    let at = get_or-reverse name j 0 (omega arith) in
    let pass = prefix_len_passes is_ascii_digit (reverse name) j 0 in' in
    ap is_ascii_digit (sym (at ∙ ap (λ k. get_or name k 0) back)) ∙ pass

-- a name that the test of tilde numbers finds ends with a tilde and one or more digits
tilde-to : (name : List ℕ) → has_tilde_number name ≡ true → EndsInTildeNumber name
tilde-to name h =
    let p = and_parts _ _ h in
    let some : 0 < suffix_len is_ascii_digit name = ltb-true _ _ p.0 in
    let le : suffix_len is_ascii_digit name ≤ length name = suffix_len-le-length is_ascii_digit name in
    let byte : get_or name (length name - suffix_len is_ascii_digit name - 1) 0 ≡ 126 = eqb-true _ 126 p.1 in
    elim (cases_lt (suffix_len is_ascii_digit name) (length name)) [
      | inr all ↦
          let zero_at : length name - suffix_len is_ascii_digit name - 1 ≡ 0 = omega arith in
          let digit : is_ascii_digit (get_or name 0 0) ≡ true = suffix-passes name 0 (omega arith) (omega arith) in
          let tilde : get_or name 0 0 ≡ 126 = ap (λ k. get_or name k 0) (sym zero_at) ∙ byte in
          let none : false ≡ true = sym (ap is_ascii_digit tilde) ∙ digit in cc none
      | inl lt ↦ around name (length name - suffix_len is_ascii_digit name - 1) (omega arith) byte some
          (λ i l g. suffix-passes name i l (omega arith))
    ]
  where
    around : (name : List ℕ) (at : ℕ) → at + 1 < length name → get_or name at 0 ≡ 126
        → 0 < suffix_len is_ascii_digit name
        → ((i : ℕ) → i < length name → at + 1 ≤ i → is_ascii_digit (get_or name i 0) ≡ true) → EndsInTildeNumber name
    around name at lt byte some each = record {
      digits = drop (at + 1) name;
      ending = (
        take at name,
        sym (take-append-drop at name)
            ∙ ap (λ (l : List ℕ). take at name ++ l)
            (drop_more name at 0 (omega arith) ∙ ap (λ b. b ∷ drop (at + 1) name) byte),
      );
      some = let n = length-drop (at + 1) name in omega arith;
      each = All-from_get_or (λ b. IsTrue (is_ascii_digit b)) (drop (at + 1) name) 0
          (λ i l. let n = length-drop (at + 1) name in ap is_ascii_digit (get_or-drop (at + 1) name i 0)
          ∙ each (at + 1 + i) (omega arith) (omega arith));
    }

-- behind a tilde, the longest run of digits at the end of a text is all the digits there
tilde-len : (front digits : List ℕ) → All (λ b. IsTrue (is_ascii_digit b)) digits
    → suffix_len is_ascii_digit (front ++ 126 ∷ digits) ≡ length digits
tilde-len front digits all =
    let name : List ℕ = front ++ 126 ∷ digits in
    let n : length (front ++ 126 ∷ digits) ≡ length front + suc (length digits) = length-append front (126 ∷ digits) in
    let here = suffix_len_is is_ascii_digit (front ++ 126 ∷ digits) (length front + 1) 0 (omega arith)
    (λ k low high. ap is_ascii_digit (at-digit k low)
    ∙ All-get_or (λ b. IsTrue (is_ascii_digit b)) digits (k - (length front + 1)) 0 (omega arith) all)
    (λ _. ap is_ascii_digit (ap (λ k. get_or (front ++ 126 ∷ digits) k 0) (before (length front))
    ∙ get_or_at front 126 digits 0 (length front) refl)) in
    here ∙ (omega arith)
  where
    before : (k : ℕ) → k + 1 - 1 ≡ k
    before k = omega arith

    at-digit : (k : ℕ) → length front + 1 ≤ k
        → get_or (front ++ 126 ∷ digits) k 0 ≡ get_or digits (k - (length front + 1)) 0
    at-digit k low =
        ap (λ (l : List ℕ). get_or l k 0) (sym (append_assoc front (126 ∷ []) digits))
        ∙ get_or-append_right (front ++ 126 ∷ []) digits (length front + 1) k 0 (length-append front (126 ∷ [])) low

tilde-from : (front digits : List ℕ) → 0 < length digits → All (λ b. IsTrue (is_ascii_digit b)) digits
    → has_tilde_number (front ++ 126 ∷ digits) ≡ true
tilde-from front digits some all =
    let len = tilde-len front digits all in
    let n : length (front ++ 126 ∷ digits) ≡ length front + suc (length digits) = length-append front (126 ∷ digits) in
    let at : length (front ++ 126 ∷ digits) - length digits - 1 ≡ length front = omega arith in
    rw (len, at, get_or_at front 126 digits 0 (length front) refl, lt-ltb 0 (length digits) some) refl

pub tilde_numbers_are_exact : TildeNumbersAreExact
tilde_numbers_are_exact name =
    (tilde-to name, λ u. ap has_tilde_number u.ending.1 ∙ tilde-from u.ending.0 u.digits u.some u.each)
