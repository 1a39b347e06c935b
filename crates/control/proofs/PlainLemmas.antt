-- Texts that end no line.
use Rattle.std.proofs.Common.{◌≡◌, ◌<◌, ◌/◌, ◌%◌, ◌==◌, ℕ, zero, suc, nat_eq, Bool, true, false, not, cond}
use Rattle.std.proofs.Common.{List, [], ◌∷◌, ◌++◌, length, get_or, arith, refl, sym, ap, ◌∙◌}
use Rattle.std.proofs.lemmas.Bool.{false≢true, and_parts, and_from, eqb-true}
use Rattle.std.proofs.lemmas.Bool.Decides.{nat_tests}
use Rattle.std.proofs.lemmas.List.Folds.{list_all-append}
use Rattle.std.proofs.lemmas.Str.{IsUtf8-from_is_utf8, NoCharPasses-byte, encodes-chars}
use Rattle.std.specs.Fmt.{decimal, digit_glyph, digits, digits_onto}
use Rattle.std.specs.List.{list_all}
use Rattle.std.specs.Prelude.{codes, if◌then◌else◌, ◌&&◌}
use Rattle.std.specs.Str.{NoCharPasses, NonePass, chars}
use Rattle.ucd_category.proofs.Computing.{ucd_category}
use Rattle.ucd_category.specs.GeneralCategory.{general_category}
use Rattle.keyring.specs.KeyList.{fingerprint}
use Rattle.keyring.proofs.FingerprintLemmas.{fingerprint_word}
use Rattle.control.specs.Notices.{is_hidden, is_plain, plain}
use Rattle.orders.specs.Words.{line_end}

abbrev pub is_no_end : ℕ → Bool
is_no_end b = not (nat_eq b line_end)

pub no_end_both : (xs ys : List ℕ) → list_all is_no_end xs ≡ true → list_all is_no_end ys ≡ true
    → list_all is_no_end (xs ++ ys) ≡ true
no_end_both xs ys one two = list_all-append is_no_end xs ys ∙ and_from _ _ one two

-- ---- plain texts

abbrev hides : ℕ → Bool
hides c = is_hidden (general_category c)

hides_end : hides 10 ≡ true
unfolding ucd_category
hides_end = refl

none_hidden : (cs : List ℕ) → list_all (λ c. not (hides c)) cs ≡ true → NonePass hides cs
none_hidden [] all = tt
none_hidden (c ∷ cs) all =
    let parts = and_parts (not (hides c)) (list_all (λ x. not (hides x)) cs) all in
    (shown (hides c) parts.0, none_hidden cs parts.1)
  where
    shown : (b : Bool) → not b ≡ true → b ≡ false
    shown true is = absurd (false≢true is)
    shown false is = refl

each_byte : (p : ℕ → Bool) (text : List ℕ) → ((i : ℕ) → i < length text → p (get_or text i 0) ≡ true)
    → list_all p text ≡ true
each_byte p [] each = refl
each_byte p (b ∷ bs) each =
    and_from (p b) (list_all p bs) (each 0 (omega arith)) (each_byte p bs (λ i few. each (suc i) (omega (arith, few))))

pub plain_bytes : (text : List ℕ) → is_plain text ≡ true → list_all is_no_end text ≡ true
plain_bytes text is = each_byte is_no_end text (λ i few. at i few (nat_eq (get_or text i 0) 10) refl)
  where
    none : NoCharPasses hides text
    none =
        let parts = and_parts _ _ is in
        (chars text, encodes-chars text (IsUtf8-from_is_utf8 text parts.0), none_hidden (chars text) parts.1)

    at : (i : ℕ) → i < length text → (same : Bool) → nat_eq (get_or text i 0) 10 ≡ same → not same ≡ true
    at i few false e = refl
    at i few true e =
        let ends = eqb-true (get_or text i 0) 10 e in
        absurd (false≢true (sym (NoCharPasses-byte hides text i none few (omega (arith, ends)))
        ∙ ap hides ends ∙ hides_end))

pub plain_text : (text : List ℕ) → list_all is_no_end (plain text) ≡ true
plain_text text = at (is_plain text) refl
  where
    at : (passes : Bool) → is_plain text ≡ passes
        → list_all is_no_end (if passes then text else codes "?") ≡ true
    at true e = plain_bytes text e
    at false e = refl

-- ---- numbers and fingerprints

glyph_no_end : (d : ℕ) → is_no_end (digit_glyph false d) ≡ true
glyph_no_end d = grind (arith, nat_tests)

onto_no_end : (k n : ℕ) (acc : List ℕ) → list_all is_no_end acc ≡ true
    → list_all is_no_end (digits_onto k 10 false n acc) ≡ true
onto_no_end zero n acc all = all
onto_no_end (suc k) n acc all = at (n / 10 == 0) (onto_no_end k (n / 10) (digit_glyph false (n % 10) ∷ acc) more)
  where
    more : list_all is_no_end (digit_glyph false (n % 10) ∷ acc) ≡ true
    more = and_from (is_no_end (digit_glyph false (n % 10))) (list_all is_no_end acc) (glyph_no_end (n % 10)) all

    at : (last : Bool) → list_all is_no_end (digits_onto k 10 false (n / 10) (digit_glyph false (n % 10) ∷ acc)) ≡ true
        → list_all is_no_end (cond last (digit_glyph false (n % 10) ∷ acc)
        (digits_onto k 10 false (n / 10) (digit_glyph false (n % 10) ∷ acc))) ≡ true
    at true rest = more
    at false rest = rest

pub decimal_no_end : (n : ℕ) → list_all is_no_end (decimal n) ≡ true
unfolding digits
decimal_no_end n = onto_no_end 64 n [] refl

no_end_word : (text : List ℕ) → list_all (λ b. not (nat_eq b 32) && not (nat_eq b 10)) text ≡ true
    → list_all is_no_end text ≡ true
no_end_word [] all = refl
no_end_word (b ∷ bs) all =
    let parts = and_parts (not (nat_eq b 32) && not (nat_eq b 10)) _ all in
    and_from (is_no_end b) (list_all is_no_end bs) (and_parts (not (nat_eq b 32)) _ parts.0).1 (no_end_word bs parts.1)

pub fingerprint_no_end : (key : List ℕ) → list_all is_no_end (fingerprint key) ≡ true
fingerprint_no_end key = no_end_word (fingerprint key) (fingerprint_word key)
