-- The tests of an element are the rules of an element.
use Rattle.std.proofs.Common.{◌≡◌, ◌==◌, ◌↔◌, ◌⊎◌, ◌<◌, ◌++◌, ◌+◌, ◌-◌, ℕ, zero, suc, List, [], ◌∷◌, length, get_or}
use Rattle.std.proofs.Common.{take, Bool, true, false, not, ltb, refl, sym, ap, ◌∙◌, inl, inr, arith, subst}
use Rattle.std.proofs.lemmas.Bool.{and_from, and_parts, cases_Bool, eq-eqb, eqb-true, lt-ltb, ltb-true, or_cases}
use Rattle.std.proofs.lemmas.Bool.{or_left, or_right}
use Rattle.std.proofs.lemmas.List.{get_or_push, length_push, take_all, take_more}
use Rattle.std.proofs.lemmas.List.Elements.{All-weaker}
use Rattle.std.proofs.lemmas.List.Folds.{Any-from_list_any, list_any_at}
use Rattle.std.proofs.lemmas.List.Sums.{AllPass-from_list_all, list_all-from_AllPass}
use Rattle.std.specs.List.{All, Contains, list_all, list_any}
use Rattle.modpath.specs.ModulePath.{BeginsWith, EndsWith, IsElementByte, IsFirstElementByte}
use Rattle.modpath.specs.Path.{is_element_byte, is_first_element_byte}
use Rattle.modpath.specs.PathLaws.{DotEndsAreExact, ElementBytesAreExact, FirstElementsAreExact}

-- ---- lists

-- a test of each element, by the fact that it tests
pub all_exact : (p : ℕ → Bool) (P : ℕ → Type 0) → ((x : ℕ) → (p x ≡ true) ↔ P x) → (xs : List ℕ)
    → (list_all p xs ≡ true) ↔ All P xs
all_exact p P each xs = (
  λ h. All-weaker (λ x. p x ≡ true) P (λ x. (each x).0) xs (AllPass-from_list_all p xs h),
  λ a. list_all-from_AllPass p xs (All-weaker P (λ x. p x ≡ true) (λ x. (each x).1) xs a),
)

-- a list that contains an element has it in front or behind
cons-at : {X : Type 0} (x : X) (xs : List X) (y : X) (k : ℕ) → k < length (x ∷ xs) → get_or (x ∷ xs) k y ≡ y
    → (x ≡ y) ⊎ Contains xs y
cons-at x xs y zero lt e = inl e
cons-at x xs y (suc k) lt e = inr (k, omega arith, e)

pub contains_cases : {X : Type 0} (x : X) (xs : List X) (y : X) → Contains (x ∷ xs) y → (x ≡ y) ⊎ Contains xs y
contains_cases x xs y c = cons-at x xs y c.0 c.1 c.2

pub contains_none : {X : Type 0} (y : X) → Contains [] y → ⊥
contains_none y c = omega (arith, c.1)

pub contains_here : {X : Type 0} (x : X) (xs : List X) (y : X) → x ≡ y → Contains (x ∷ xs) y
contains_here x xs y e = (0, omega arith, e)

pub contains_there : {X : Type 0} (x : X) (xs : List X) (y : X) → Contains xs y → Contains (x ∷ xs) y
contains_there x xs y c = (suc c.0, omega (arith, c.1), c.2)

-- a test for one byte
pub any_exact : (c : ℕ) (xs : List ℕ) → (list_any (λ b. b == c) xs ≡ true) ↔ Contains xs c
any_exact c xs = (
  λ h. let a = Any-from_list_any (λ b. b == c) xs h in
      (a.0, a.2, subst (λ y. get_or xs a.0 y ≡ y) (eqb-true a.1 c a.4) a.3),
  λ u. list_any_at (λ b. b == c) xs u.0 c u.1 (eq-eqb (get_or xs u.0 c) c u.2),
)

-- a test of the first byte, and of the last
pub begins_exact : (c : ℕ) (e : List ℕ) → 0 < c → ((get_or e 0 0 == c) ≡ true) ↔ BeginsWith e (c ∷ [])
begins_exact c [] some =
    (λ h. let z : 0 ≡ c = eqb-true 0 c h in absurd (omega arith), λ u. absurd (nil-cons u.0 u.1))
  where
    nil-cons : (rest : List ℕ) → ◌≡◌ {A = List ℕ} [] (c ∷ rest) → ⊥
    nil-cons rest h = cc h
begins_exact c (b ∷ rest) some = (
  λ h. (rest, ap (λ x. x ∷ rest) (eqb-true b c h)),
  λ u. eq-eqb b c (ap (λ (l : List ℕ). get_or l 0 0) u.1),
)

pub last_byte : (e : List ℕ) → 0 < length e → e ≡ take (length e - 1) e ++ get_or e (length e - 1) 0 ∷ []
last_byte e some =
    let n : length e - 1 + 1 ≡ length e = omega arith in
    let more = take_more e (length e - 1) 0 (omega arith) in
    sym (take_all (length e) e (omega arith)) ∙ ap (λ k. take k e) (sym n) ∙ more

nil-last : (c : ℕ) (e : List ℕ) → 0 < c → length e ≡ 0 → (get_or e (length e - 1) 0 == c) ≡ true → ⊥
nil-last c [] some none h = let z : 0 ≡ c = eqb-true 0 c h in omega arith
nil-last c (b ∷ e) some none h = omega arith

-- the last byte of a text is `c`, which is not 0, exactly if the text ends with `c`
pub ends_exact : (c : ℕ) (e : List ℕ) → 0 < c → ((get_or e (length e - 1) 0 == c) ≡ true) ↔ EndsWith e (c ∷ [])
ends_exact c e some = (
  λ h. elim (cases_Bool (ltb 0 (length e))) [
    | inl more ↦ (
      take (length e - 1) e,
      last_byte e (ltb-true 0 (length e) more)
          ∙ ap (λ x. take (length e - 1) e ++ x ∷ []) (eqb-true (get_or e (length e - 1) 0) c h),
    )
    | inr none ↦ absurd (nil-last c e some (no-length none) h)
  ],
  λ u. ends-from u.0 u.1,
)
  where
    no-length : ltb 0 (length e) ≡ false → length e ≡ 0
    no-length h = grind (arith, Rattle.std.proofs.lemmas.Bool.Decides.nat_tests)

    ends-from : (front : List ℕ) → e ≡ front ++ c ∷ [] → (get_or e (length e - 1) 0 == c) ≡ true
    ends-from front e' =
        let n : length e ≡ length front + 1 = ap length e' ∙ length_push front c in
        let at : length front ≡ length e - 1 = omega arith in
        eq-eqb (get_or e (length e - 1) 0) c
        (ap (λ (l : List ℕ). get_or l (length e - 1) 0) e' ∙ get_or_push front c 0 (length e - 1) at)

-- ---- bytes

-- the test of an element byte passes only letters, digits and `-`, `.`, `_`, `~`
pub element_byte-to : (b : ℕ) → is_element_byte b ≡ true → IsElementByte b
element_byte-to b h = elim (or_cases _ _ h) [
  | inr tilde ↦ inr (contains_there 45 (46 ∷ 95 ∷ 126 ∷ []) b
      (contains_there 46 (95 ∷ 126 ∷ []) b
      (contains_there 95 (126 ∷ []) b (contains_here 126 [] b (sym (eqb-true b 126 tilde))))))
  | inl h₁ ↦ elim (or_cases _ _ h₁) [
    | inr low ↦ inr (contains_there 45 (46 ∷ 95 ∷ 126 ∷ []) b
        (contains_there 46 (95 ∷ 126 ∷ []) b (contains_here 95 (126 ∷ []) b (sym (eqb-true b 95 low)))))
    | inl h₂ ↦ elim (or_cases _ _ h₂) [
      | inr dot ↦ inr (contains_there 45 (46 ∷ 95 ∷ 126 ∷ []) b
          (contains_here 46 (95 ∷ 126 ∷ []) b (sym (eqb-true b 46 dot))))
      | inl h₃ ↦ elim (or_cases _ _ h₃) [
        | inr dash ↦ inr (contains_here 45 (46 ∷ 95 ∷ 126 ∷ []) b (sym (eqb-true b 45 dash)))
        | inl letter ↦ inl letter
      ]
    ]
  ]
]

byte-among : (b c : ℕ) → c ≡ b → is_element_byte c ≡ true → is_element_byte b ≡ true
byte-among b c e h = ap is_element_byte (sym e) ∙ h

-- the test of an element byte passes each letter, each digit and `-`, `.`, `_`, `~`
pub element_byte-from : (b : ℕ) → IsElementByte b → is_element_byte b ≡ true
element_byte-from b (inl letter) = or_left _ _ (or_left _ _ (or_left _ _ (or_left _ _ letter)))
element_byte-from b (inr among) = elim (contains_cases 45 (46 ∷ 95 ∷ 126 ∷ []) b among) [
  | inl e ↦ byte-among b 45 e refl
  | inr c₁ ↦ elim (contains_cases 46 (95 ∷ 126 ∷ []) b c₁) [
    | inl e ↦ byte-among b 46 e refl
    | inr c₂ ↦ elim (contains_cases 95 (126 ∷ []) b c₂) [
      | inl e ↦ byte-among b 95 e refl
      | inr c₃ ↦ elim (contains_cases 126 [] b c₃) [
        | inl e ↦ byte-among b 126 e refl
        | inr none ↦ absurd (contains_none b none)
      ]
    ]
  ]
]

pub element_bytes_are_exact : ElementBytesAreExact
element_bytes_are_exact e =
    let each = all_exact is_element_byte IsElementByte (λ b. (element_byte-to b, element_byte-from b)) e in (
      λ h. let p = and_parts _ _ h in record { some = ltb-true 0 (length e) p.0; each = each.0 p.1 },
      λ u. and_from _ _ (lt-ltb 0 (length e) u.some) (each.1 u.each),
    )

pub dot_ends_are_exact : DotEndsAreExact
dot_ends_are_exact e =
    let first = begins_exact 46 e (omega arith) in
    let last = ends_exact 46 e (omega arith) in (
      λ h. elim (or_cases _ _ h) [ inl f ↦ inl (first.0 f) | inr l ↦ inr (last.0 l) ],
      λ u. elim u [ inl f ↦ or_left _ _ (first.1 f) | inr l ↦ or_right _ _ (last.1 l) ],
    )

-- ---- the first element

first_byte-to : (b : ℕ) → is_first_element_byte b ≡ true → IsFirstElementByte b
first_byte-to b h = elim (or_cases _ _ h) [
  | inr dot ↦ inr (inr (contains_there 45 (46 ∷ []) b (contains_here 46 [] b (sym (eqb-true b 46 dot)))))
  | inl h₁ ↦ elim (or_cases _ _ h₁) [
    | inr dash ↦ inr (inr (contains_here 45 (46 ∷ []) b (sym (eqb-true b 45 dash))))
    | inl h₂ ↦ elim (or_cases _ _ h₂) [ inr digit ↦ inr (inl digit) | inl letter ↦ inl letter ]
  ]
]

first-among : (b c : ℕ) → c ≡ b → is_first_element_byte c ≡ true → is_first_element_byte b ≡ true
first-among b c e h = ap is_first_element_byte (sym e) ∙ h

first_byte-from : (b : ℕ) → IsFirstElementByte b → is_first_element_byte b ≡ true
first_byte-from b (inl letter) = or_left _ _ (or_left _ _ (or_left _ _ letter))
first_byte-from b (inr (inl digit)) = or_left _ _ (or_left _ _ (or_right _ _ digit))
first_byte-from b (inr (inr among)) = elim (contains_cases 45 (46 ∷ []) b among) [
  | inl e ↦ first-among b 45 e refl
  | inr c₁ ↦ elim (contains_cases 46 [] b c₁) [
    | inl e ↦ first-among b 46 e refl
    | inr none ↦ absurd (contains_none b none)
  ]
]

not-to : (b : Bool) → not b ≡ true → b ≡ true → ⊥
not-to true h e = cc h
not-to false h e = cc e

not-from : (b : Bool) → (b ≡ true → ⊥) → not b ≡ true
not-from true h = absurd (h refl)
not-from false h = refl

pub first_elements_are_exact : FirstElementsAreExact
first_elements_are_exact e =
    let each = all_exact is_first_element_byte IsFirstElementByte (λ b. (first_byte-to b, first_byte-from b)) e in
    let dot = any_exact 46 e in
    let dash = begins_exact 45 e (omega arith) in (
      λ h. let p = and_parts _ _ h in let q = and_parts _ _ p.0 in
          record { bytes = each.0 q.0; dot = dot.0 q.1; no_dash = λ u. not-to _ p.1 (dash.1 u) },
      λ u. and_from _ _ (and_from _ _ (each.1 u.bytes) (dot.1 u.dot)) (not-from _ (λ t. u.no_dash (dash.0 t))),
    )
