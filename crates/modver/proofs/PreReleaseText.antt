-- Where the pre-release stands in the text of a version: between the first hyphen and the mark.
use Rattle.std.proofs.Common.{◌≡◌, ◌==◌, ◌<◌, ◌≤◌, ◌^◌, ◌+◌, ◌-◌, ◌++◌, ℕ, zero, suc, List, [], ◌∷◌, length, take, drop}
use Rattle.std.proofs.Common.{Option, Some, None, Bool}
use Rattle.std.proofs.Common.{true, false, not, cond, ltb, refl, sym, ap, ◌∙◌, inl, inr, arith, append_assoc}
use Rattle.std.proofs.Common.{append-nil, length-append, length-drop}
use Rattle.std.proofs.lemmas.Bool.{cases_lt, eq-eqb, le-ltb, lt-ltb}
use Rattle.std.proofs.lemmas.Bool.Decides.{nat_tests}
use Rattle.std.proofs.Math.Seq.{drop-append-add}
use Rattle.std.proofs.lemmas.Fmt.{decimal_is_IsNumeral, decimal_nonempty}
use Rattle.std.proofs.lemmas.List.{drop-append-le, take_all, take_at}
use Rattle.std.proofs.lemmas.List.Folds.{list_all-append}
use Rattle.std.specs.Fmt.{decimal}
use Rattle.std.specs.List.{join_with_byte, list_all, position, position_or_len}
use Rattle.std.specs.Option.{unwrap_or}
use Rattle.std.specs.Prelude.{MatchOption}
use Rattle.std.specs.Str.Parse.{AllDigits}
use Rattle.modver.proofs.Conditions.{and-first, and-second}
use Rattle.modver.proofs.SemVerText.{pre_release-of}
use Rattle.modver.specs.Parts.{identifiers_of}
use Rattle.modver.specs.SemanticVersion.{IsVersion, SemanticVersion, build_text, incompatible, is_identifier, mark_of}
use Rattle.modver.specs.SemanticVersion.{pre_release_text, text_with_build, version_text}

-- ---- texts that lack a byte

abbrev lacks : ℕ → List ℕ → Bool
lacks c text = list_all (λ b. not (b == c)) text

-- ---- the numbers of a version have no hyphen

digits-lack : (digits : List ℕ) → AllDigits 10 digits → lacks 45 digits ≡ true
digits-lack [] h = refl
digits-lack (d ∷ digits) h =
    let small = h.0 in
    let other : (d == 45) ≡ false = grind (arith, nat_tests) in
    rw other (digits-lack digits h.1)

decimal-lacks : (n : ℕ) → n < 2 ^ 64 → lacks 45 (decimal n) ≡ true
decimal-lacks n small = digits-lack (decimal n) (decimal_is_IsNumeral n small).0.1

-- the numbers, behind the `v`
abbrev numbers : ℕ → ℕ → ℕ → List ℕ
numbers a b c = 118 ∷ (decimal a ++ (46 ∷ (decimal b ++ (46 ∷ decimal c))))

numbers-lack : (a b c : ℕ) → a < 2 ^ 64 → b < 2 ^ 64 → c < 2 ^ 64 → lacks 45 (numbers a b c) ≡ true
numbers-lack a b c x y z =
    rw (
      list_all-append (λ b. not (b == 45)),
      decimal-lacks a x,
      list_all-append (λ b. not (b == 45)),
      decimal-lacks b y,
      decimal-lacks c z,
    ) refl

numbers-append : (a b c : ℕ) (rest : List ℕ)
    → 118 ∷ (decimal a ++ (46 ∷ (decimal b ++ (46 ∷ (decimal c ++ rest))))) ≡ numbers a b c ++ rest
numbers-append a b c rest = simp append_assoc

-- ---- the first hyphen

-- a byte that stands nowhere before is found there
first-at : (c : ℕ) (front back : List ℕ) → lacks c front ≡ true
    → position_or_len (λ b. b == c) (front ++ c ∷ back) ≡ length front
first-at c [] back h = rw (eq-eqb c c refl) refl
first-at c (b ∷ front) back h =
    let ih = first-at c front back (and-second (not (b == c)) _ h) in
    rw (and-first (not (b == c)) _ h, ih) (omega arith)

-- and one that stands nowhere is not found
first-none : (c : ℕ) (text : List ℕ) → lacks c text ≡ true → position_or_len (λ b. b == c) text ≡ length text
first-none c [] h = refl
first-none c (b ∷ text) h =
    let ih = first-none c text (and-second (not (b == c)) _ h) in
    rw (and-first (not (b == c)) _ h, ih) (omega arith)

found : (n len at : ℕ) → Some at ≡ cond (ltb n len) (Some n) None → (at ≡ n) × (n < len)
found n len at h = elim (cases_lt n len) [
  | inl lt ↦ (ap (λ o. unwrap_or o 0) (rw (lt-ltb n len lt) at h), lt)
  | inr le ↦ cc (rw (le-ltb n len le) at h)
]

missed : (n len : ℕ) → ◌≡◌ {A = Option ℕ} None (cond (ltb n len) (Some n) None) → len ≤ n
missed n len h = elim (cases_lt n len) [
  | inl lt ↦ cc (rw (lt-ltb n len lt) at h)
  | inr le ↦ le
]

-- what stands behind the first hyphen
after-front : (front : List ℕ) (ids : List (List ℕ)) (text : List ℕ) (r : Option ℕ) → lacks 45 front ≡ true
    → text ≡ front ++ pre_release_text ids → r ≡ position (λ b. b == 45) text
    → MatchOption r (ids ≡ []) (λ at. drop (at + 1) text ≡ join_with_byte 46 ids)
after-front front [] text None free e p = refl
after-front front [] text (Some at) free e p =
    let f = found (position_or_len (λ b. b == 45) text) (length text) at p in
    let none = first-none 45 text (ap (lacks 45) (e ∙ append-nil front) ∙ free) in
    absurd (omega (arith, f.1, none))
after-front front (i ∷ rest) text None free e p =
    let back = join_with_byte 46 (i ∷ rest) in
    let long = missed (position_or_len (λ b. b == 45) text) (length text) p in
    let first : position_or_len (λ b. b == 45) text ≡ length front = ap (position_or_len (λ b. b == 45)) e
    ∙ first-at 45 front back free in
    let size : length text ≡ length front + length (45 ∷ back) = ap length e ∙ length-append front (45 ∷ back) in
    absurd (omega arith)
after-front front (i ∷ rest) text (Some at) free e p =
    let back = join_with_byte 46 (i ∷ rest) in
    let f = found (position_or_len (λ b. b == 45) text) (length text) at p in
    let here : at ≡ length front = f.0 ∙ ap (position_or_len (λ b. b == 45)) e ∙ first-at 45 front back free in
    rw (e, here) (drop-append-add front (45 ∷ back) 1)

-- its identifiers
behind : (ids : List (List ℕ)) (text : List ℕ) (r : Option ℕ) → list_all is_identifier ids ≡ true
    → MatchOption r (ids ≡ []) (λ at. drop (at + 1) text ≡ join_with_byte 46 ids)
    → MatchOption r ([] ≡ ids) (λ at. identifiers_of (take (length text - (at + 1)) (drop (at + 1) text)) ≡ ids)
behind ids text None valid h = sym h
behind ids text (Some at) valid h =
    let all = take_all (length text - (at + 1)) (drop (at + 1) text) (omega (arith, length-drop (at + 1) text)) in
    ap identifiers_of (all ∙ h) ∙ (pre_release-of ids valid).1

-- the text of a version without the mark
abbrev unmarked : SemanticVersion → List ℕ
unmarked v = text_with_build v.major v.minor v.patch v.identifiers []

unmarked-is : (v : SemanticVersion) → unmarked v ≡ numbers v.major v.minor v.patch ++ pre_release_text v.identifiers
unmarked-is v =
    numbers-append v.major v.minor v.patch (pre_release_text v.identifiers ++ [])
    ∙ ap (λ (t : List ℕ). numbers v.major v.minor v.patch ++ t) (append-nil (pre_release_text v.identifiers))

numbers-long : (a b c : ℕ) → a < 2 ^ 64 → b < 2 ^ 64 → c < 2 ^ 64 → 6 ≤ length (numbers a b c)
numbers-long a b c x y z =
    let first = decimal_nonempty a x in
    let second = decimal_nonempty b y in
    let third = decimal_nonempty c z in
    let inner = length-append (decimal b) (46 ∷ decimal c) in
    let outer = length-append (decimal a) (46 ∷ (decimal b ++ (46 ∷ decimal c))) in
    omega arith

lacks-drop : (c n : ℕ) (text : List ℕ) → lacks c text ≡ true → lacks c (drop n text) ≡ true
lacks-drop c zero [] h = refl
lacks-drop c zero (b ∷ text) h = h
lacks-drop c (suc n) [] h = refl
lacks-drop c (suc n) (b ∷ text) h = lacks-drop c n text (and-second (not (b == c)) _ h)

-- the text has the bytes of its numbers
pub text-long : (v : SemanticVersion) (text : List ℕ) → IsVersion v → text ≡ unmarked v → 6 ≤ length text
text-long v text valid e =
    let long = numbers-long v.major v.minor v.patch valid.major valid.minor valid.patch in
    let size : length text ≡ length (numbers v.major v.minor v.patch) + length (pre_release_text v.identifiers)
    = ap length (e ∙ unmarked-is v)
    ∙ length-append (numbers v.major v.minor v.patch) (pre_release_text v.identifiers) in
    omega arith

-- from the sixth byte on
pub after-hyphen : (v : SemanticVersion) (text ending : List ℕ) (r : Option ℕ) → IsVersion v → text ≡ unmarked v
    → ending ≡ take (length text - 6) (drop 6 text)
    → r ≡ position (λ b. b == 45) ending
    → MatchOption r ([] ≡ v.identifiers)
    (λ at. identifiers_of (take (length ending - (at + 1)) (drop (at + 1) ending)) ≡ v.identifiers)
after-hyphen v text ending r valid e f p =
    let n = numbers v.major v.minor v.patch in
    let long = numbers-long v.major v.minor v.patch valid.major valid.minor valid.patch in
    let all : take (length text - 6) (drop 6 text) ≡ drop 6 text =
    take_all (length text - 6) (drop 6 text) (omega (arith, length-drop 6 text)) in
    let cut : drop 6 (n ++ pre_release_text v.identifiers) ≡ drop 6 n ++ pre_release_text v.identifiers =
    drop-append-le 6 n (pre_release_text v.identifiers) long in
    behind v.identifiers ending r valid.identifiers
    (after-front (drop 6 n) v.identifiers ending r
    (lacks-drop 45 6 n (numbers-lack v.major v.minor v.patch valid.major valid.minor valid.patch))
    (f ∙ all ∙ ap (drop 6) (e ∙ unmarked-is v) ∙ cut) p)

-- ---- the mark

mark-behind : (v : SemanticVersion) → version_text v ≡ unmarked v ++ build_text (mark_of v.marked)
mark-behind v =
    let mark = build_text (mark_of v.marked) in
    numbers-append v.major v.minor v.patch (pre_release_text v.identifiers ++ mark)
    ∙ sym (append_assoc (numbers v.major v.minor v.patch) (pre_release_text v.identifiers) mark)
    ∙ ap (λ (t : List ℕ). t ++ mark) (sym (unmarked-is v))

cut : (front text : List ℕ) (m : Bool) → text ≡ front ++ build_text (mark_of m) → m ≡ true
    → (13 ≤ length text) × (take (length text - 13) text ≡ front)
cut front text true e h =
    let size : length text ≡ length front + 13 = ap length e ∙ length-append front (build_text incompatible) in
    let left : length text - 13 ≡ length front = omega arith in
    (omega arith, rw (left, e) (take_at front (build_text incompatible) (length front) refl))
cut front text false e h = cc h

whole : (front text : List ℕ) (m : Bool) → text ≡ front ++ build_text (mark_of m) → m ≡ false → text ≡ front
whole front text true e h = cc h
whole front text false e h = e ∙ append-nil front

-- the mark has 13 bytes, and before it stands the rest
pub cut-mark : (v : SemanticVersion) (text : List ℕ) → text ≡ version_text v → v.marked ≡ true
    → (13 ≤ length text) × (take (length text - 13) text ≡ unmarked v)
cut-mark v text e h = cut (unmarked v) text v.marked (e ∙ mark-behind v) h

-- with no mark it is all
pub no-mark : (v : SemanticVersion) (text : List ℕ) → text ≡ version_text v → v.marked ≡ false → text ≡ unmarked v
no-mark v text e h = whole (unmarked v) text v.marked (e ∙ mark-behind v) h
