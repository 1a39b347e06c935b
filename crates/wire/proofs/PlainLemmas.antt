-- Texts in their escaped form.
use Rattle.std.proofs.Common.{◌≡◌, ◌==◌, ◌⊎◌, ℕ, ◌+◌, ◌-◌, List, [], ◌∷◌, Option, Some, None, true, false, not, refl}
use Rattle.std.proofs.Common.{sym, ap, ◌∙◌, inl, inr, arith, subst}
use Rattle.std.proofs.lemmas.Bool.{and_parts, cases_Bool, false_from_ne_true, not-true}
use Rattle.std.proofs.lemmas.Str.{IsUtf8-from_is_utf8, is_utf8-from_IsUtf8}
use Rattle.std.specs.Char.{is_ascii_uppercase}
use Rattle.std.specs.List.{list_all}
use Rattle.std.specs.Option.{unwrap_or}
use Rattle.std.specs.Str.{IsUtf8, is_utf8}
use Rattle.modpath.specs.declared.escaping.EscapeFault.{EscapeFault}
use Rattle.modpath.specs.declared.escaping.EscapeFault.TheVariants as refused
use Rattle.modpath.specs.Escape.{IsUnescaped, escape_fault, escaped, has_bang}
use Rattle.modpath.proofs.EscapeLaw.{faults_are_exact}
use Rattle.wire.specs.ModuleVersion.{plain_of, stands_for_itself, unescaped}

-- the escaped form undone
pub unescaped-escaped : (plain : List ℕ) → has_bang plain ≡ false → unescaped (escaped plain) ≡ plain
unescaped-escaped [] h = refl
unescaped-escaped (b ∷ rest) h = elim (cases_Bool (b == 33)) [
  | inl bang ↦ cc (rw bang at h)
  | inr other ↦
      let ih = unescaped-escaped rest (rw other at h) in
      elim (cases_Bool (is_ascii_uppercase b)) [
        | inl upper ↦
            let back : b + 32 - 32 ≡ b = omega arith in
            rw (upper, back) (ap (λ (l : List ℕ). b ∷ l) ih)
        | inr lower ↦ rw (lower, other) (ap (λ (l : List ℕ). b ∷ l) ih)
      ]
]

-- bytes that are no text
pub plain-no_text : (bytes : List ℕ) → ¬ (IsUtf8 bytes) → plain_of bytes ≡ None
unfolding plain_of
plain-no_text bytes none = rw (false_from_ne_true (is_utf8 bytes) (λ e. none (IsUtf8-from_is_utf8 bytes e))) refl

-- text in the escaped form
pub plain-some : (text plain : List ℕ) → IsUtf8 text → IsUnescaped text plain → plain_of text ≡ Some plain
unfolding plain_of
plain-some text plain utf8 is =
    let none : escape_fault text ≡ None = (faults_are_exact text).1 (plain, is) in
    let same : unescaped text ≡ plain = ap unescaped (sym is.same) ∙ unescaped-escaped plain is.no_bang in
    rw (is_utf8-from_IsUtf8 text utf8, none, same) refl

-- text that is in no escaped form
pub plain-fault : (text : List ℕ) (fault : EscapeFault) → escape_fault text ≡ Some fault → plain_of text ≡ None
unfolding plain_of
plain-fault text fault is = elim (cases_Bool (is_utf8 text)) [
  | inl utf8 ↦ rw (utf8, is) refl
  | inr other ↦ rw other refl
]

pub plain-refused : (bytes text : List ℕ) (fault : EscapeFault) → text ≡ bytes
    → (fault ≡ refused.Memory) ⊎ (escape_fault text ≡ Some fault)
    → ¬ (fault ≡ refused.Memory) → plain_of bytes ≡ None
plain-refused bytes text fault same (inl memory) other = absurd (other memory)
plain-refused bytes text fault same (inr some) other = plain-fault bytes fault (rw same at some)

-- a text of bytes that are their own escaped forms is its own escaped form, and has no `!`
pub unescaped-itself : (text : List ℕ) → list_all stands_for_itself text ≡ true → IsUnescaped text text
unescaped-itself [] h = record { same = refl; no_bang = refl }
unescaped-itself (b ∷ rest) h =
    let both = and_parts (stands_for_itself b) (list_all stands_for_itself rest) h in
    let here = and_parts (not (b == 33)) (not (is_ascii_uppercase b)) both.0 in
    let other : (b == 33) ≡ false = not-true (b == 33) here.0 in
    let lower : is_ascii_uppercase b ≡ false = not-true (is_ascii_uppercase b) here.1 in
    let ih = unescaped-itself rest both.1 in
    record { same = rw lower (ap (λ (l : List ℕ). b ∷ l) ih.same); no_bang = rw other ih.no_bang }

pub plain-itself : (text : List ℕ) → IsUtf8 text → list_all stands_for_itself text ≡ true → plain_of text ≡ Some text
plain-itself text utf8 h = plain-some text text utf8 (unescaped-itself text h)

-- the text computed of an escaped form is the text that has this escaped form
plain-by : (text plain : List ℕ) → is_utf8 text ≡ true → (fault : Option EscapeFault) → escape_fault text ≡ fault
    → plain_of text ≡ Some plain
    → IsUnescaped text plain
unfolding plain_of
plain-by text plain utf8 None none is =
    let found = (faults_are_exact text).0 none in
    let here : Some (unescaped text) ≡ Some plain = rw (utf8, none) at is in
    let same : plain ≡ found.0 = ap (λ o. unwrap_or o []) (sym here) ∙ ap unescaped (sym found.1.same)
    ∙ unescaped-escaped found.0 found.1.no_bang in
    subst (IsUnescaped text) (sym same) found.1
plain-by text plain utf8 (Some fault) some is = cc (rw (utf8, some) at is)

pub plain-is : (text plain : List ℕ) → plain_of text ≡ Some plain → IsUnescaped text plain
unfolding plain_of
plain-is text plain is = elim (cases_Bool (is_utf8 text)) [
  | inl utf8 ↦ plain-by text plain utf8 (escape_fault text) refl is
  | inr other ↦ cc (rw other at is)
]
