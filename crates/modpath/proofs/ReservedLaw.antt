-- The test of reserved names passes exactly the 22 names, in any case.
use Rattle.std.proofs.Common.{◌≡◌, ◌<◌, ◌≤◌, ◌++◌, ◌+◌, ◌-◌, ℕ, List, [], ◌∷◌, length, get_or, map, take, codes, nat_eq}
use Rattle.std.proofs.Common.{true, refl, sym, ap, ◌∙◌, inl, inr, arith, subst, lit<}
use Rattle.std.proofs.lemmas.Bool.{and_from, and_parts, cases_eq, le-leb, leb-true, or_cases, or_left, or_right}
use Rattle.std.proofs.lemmas.Bool.Decides.{Decides-eqb, nat_tests}
use Rattle.std.proofs.lemmas.List.{length-map, length_push, map_push, same_from_push}
use Rattle.std.proofs.lemmas.List.Elements.{All-contains, All-from_recursion}
use Rattle.std.proofs.lemmas.Slice.Eq.{slice_eq-Decides}
use Rattle.std.proofs.lemmas.Str.Ascii.{lowercase-uppercase}
use Rattle.std.specs.Bool.{Decides}
use Rattle.std.specs.Char.{to_ascii_lowercase, to_ascii_uppercase}
use Rattle.std.specs.Cmp.Lexicographic.{pointwise}
use Rattle.std.specs.List.{Contains}
use Rattle.modpath.specs.ModulePath.{IsReserved, reserved_names}
use Rattle.modpath.specs.Path.{is_reserved, same_ignoring_case}
use Rattle.modpath.specs.PathLaws.{ReservedNamesAreExact}
use Rattle.modpath.proofs.ElementLaw.{last_byte}

-- ---- case

abbrev upper : List ℕ → List ℕ
upper xs = map to_ascii_uppercase xs

abbrev lower : List ℕ → List ℕ
lower xs = map to_ascii_lowercase xs

pub text_eq : (xs ys : List ℕ) → Decides (pointwise nat_eq xs ys) (xs ≡ ys)
text_eq xs ys = slice_eq-Decides Decides-eqb xs ys (pointwise nat_eq xs ys) refl

uppercase-lowercase : (c : ℕ) → to_ascii_uppercase (to_ascii_lowercase c) ≡ to_ascii_uppercase c
uppercase-lowercase c = grind (arith, nat_tests)

upper-lower : (xs : List ℕ) → upper (lower xs) ≡ upper xs
upper-lower [] = refl
upper-lower (x ∷ xs) = rw (uppercase-lowercase x, upper-lower xs) refl

lower-upper : (xs : List ℕ) → lower (upper xs) ≡ lower xs
lower-upper [] = refl
lower-upper (x ∷ xs) = rw (lowercase-uppercase x, lower-upper xs) refl

same-to : (name word : List ℕ) → same_ignoring_case name word ≡ true → upper name ≡ upper word
same-to name word h = sym (upper-lower name) ∙ ap upper ((text_eq (lower name) (lower word)).0 h) ∙ upper-lower word

same-from : (name word : List ℕ) → upper name ≡ upper word → same_ignoring_case name word ≡ true
same-from name word e = (text_eq (lower name) (lower word)).1 (sym (lower-upper name) ∙ ap lower e ∙ lower-upper word)

-- ---- a name and its last byte

abbrev last : List ℕ → ℕ
last name = get_or name (length name - 1) 0

abbrev rest : List ℕ → List ℕ
rest name = take (length name - 1) name

some-bytes : (name : List ℕ) → 49 ≤ last name → 0 < length name
some-bytes [] h = let none : 49 ≤ 0 = h in absurd (omega arith)
some-bytes (b ∷ name) h = omega arith

upper-digit : (c : ℕ) → 49 ≤ c → c ≤ 57 → to_ascii_uppercase c ≡ c
upper-digit c low high = grind (arith, nat_tests)

digit-upper : (c d : ℕ) → to_ascii_uppercase c ≡ d → 49 ≤ d → d ≤ 57 → c ≡ d
digit-upper c d e low high = grind (arith, nat_tests)

split-upper : (name : List ℕ) → 0 < length name → upper name ≡ upper (rest name) ++ to_ascii_uppercase (last name) ∷ []
split-upper name some = ap upper (last_byte name some) ∙ map_push to_ascii_uppercase (rest name) (last name)

port-text : (name word : List ℕ) → upper (rest name) ≡ word → 49 ≤ last name → last name ≤ 57
    → upper name ≡ word ++ last name ∷ []
port-text name word e low high =
    split-upper name (some-bytes name low)
    ∙ ap (λ (l : List ℕ). l ++ to_ascii_uppercase (last name) ∷ []) e
    ∙ ap (λ b. word ++ b ∷ []) (upper-digit (last name) low high)

port-cut : (name word : List ℕ) (d : ℕ) → upper name ≡ word ++ d ∷ [] → 49 ≤ d → d ≤ 57
    → (upper (rest name) ≡ word) × (last name ≡ d)
port-cut name word d e low high =
    let n : length name ≡ length word + 1 = sym (length-map name to_ascii_uppercase) ∙ ap length e
    ∙ length_push word d in
    let p = same_from_push (upper (rest name)) word (to_ascii_uppercase (last name)) d
    (sym (split-upper name (omega arith)) ∙ e) in
    (p.0, digit-upper (last name) d p.1 low high)

-- ---- the names

-- what holds of each byte from `1` to `9` holds of every byte between them
one-to-nine : (P : ℕ → Type 0) → P 49 → P 50 → P 51 → P 52 → P 53 → P 54 → P 55 → P 56 → P 57 → (d : ℕ) → 49 ≤ d
    → d ≤ 57 → P d
one-to-nine P p1 p2 p3 p4 p5 p6 p7 p8 p9 d low high = elim (cases_eq d 49) [
  | inl e ↦ subst P (sym e) p1
  | inr n1 ↦
      elim (cases_eq d 50) [
        | inl e ↦ subst P (sym e) p2
        | inr n2 ↦
            elim (cases_eq d 51) [
              | inl e ↦ subst P (sym e) p3
              | inr n3 ↦
                  elim (cases_eq d 52) [
                    | inl e ↦ subst P (sym e) p4
                    | inr n4 ↦
                        elim (cases_eq d 53) [
                          | inl e ↦ subst P (sym e) p5
                          | inr n5 ↦
                              elim (cases_eq d 54) [
                                | inl e ↦ subst P (sym e) p6
                                | inr n6 ↦
                                    elim (cases_eq d 55) [
                                      | inl e ↦ subst P (sym e) p7
                                      | inr n7 ↦
                                          elim (cases_eq d 56) [
                                            | inl e ↦ subst P (sym e) p8
                                            | inr n8 ↦
                                                elim (cases_eq d 57) [
                                                  | inl e ↦ subst P (sym e) p9
                                                  | inr n9 ↦ absurd (omega arith)
                                                ]
                                          ]
                                    ]
                              ]
                        ]
                  ]
            ]
      ]
]

com-name : (d : ℕ) → 49 ≤ d → d ≤ 57 → Contains reserved_names (codes "COM" ++ d ∷ [])
com-name = one-to-nine (λ d. Contains reserved_names (codes "COM" ++ d ∷ []))
    (4, lit< tt, refl) (5, lit< tt, refl) (6, lit< tt, refl) (7, lit< tt, refl) (8, lit< tt, refl)
    (9, lit< tt, refl) (10, lit< tt, refl) (11, lit< tt, refl) (12, lit< tt, refl)

lpt-name : (d : ℕ) → 49 ≤ d → d ≤ 57 → Contains reserved_names (codes "LPT" ++ d ∷ [])
lpt-name = one-to-nine (λ d. Contains reserved_names (codes "LPT" ++ d ∷ []))
    (13, lit< tt, refl) (14, lit< tt, refl) (15, lit< tt, refl) (16, lit< tt, refl) (17, lit< tt, refl)
    (18, lit< tt, refl) (19, lit< tt, refl) (20, lit< tt, refl) (21, lit< tt, refl)

named : (name word : List ℕ) → upper name ≡ word → Contains reserved_names word → IsReserved name
named name word e c = subst (Contains reserved_names) (sym e) c

-- a name that the test of reserved names finds is one of the 22 names, in some case
reserved-to : (name : List ℕ) → is_reserved name ≡ true → IsReserved name
reserved-to name h = elim (or_cases _ _ h) [
  | inl device ↦ elim (or_cases _ _ device) [
    | inr nul ↦ named name (codes "NUL") (same-to name (codes "NUL") nul) (3, lit< tt, refl)
    | inl d₁ ↦ elim (or_cases _ _ d₁) [
      | inr aux ↦ named name (codes "AUX") (same-to name (codes "AUX") aux) (2, lit< tt, refl)
      | inl d₂ ↦ elim (or_cases _ _ d₂) [
        | inr prn ↦ named name (codes "PRN") (same-to name (codes "PRN") prn) (1, lit< tt, refl)
        | inl con ↦ named name (codes "CON") (same-to name (codes "CON") con) (0, lit< tt, refl)
      ]
    ]
  ]
  | inr port ↦
      let p = and_parts _ _ port in
      let q = and_parts _ _ p.0 in
      let low = leb-true 49 (last name) q.1 in
      let high = leb-true (last name) 57 p.1 in
      elim (or_cases _ _ q.0) [
        | inl com_word ↦
            named name (codes "COM" ++ last name ∷ [])
            (port-text name (codes "COM") (same-to (rest name) (codes "COM") com_word) low high)
            (com-name (last name) low high)
        | inr lpt ↦
            named name (codes "LPT" ++ last name ∷ [])
            (port-text name (codes "LPT") (same-to (rest name) (codes "LPT") lpt) low high)
            (lpt-name (last name) low high)
      ]
]

com-from : (name : List ℕ) (d : ℕ) → 49 ≤ d → d ≤ 57 → upper name ≡ codes "COM" ++ d ∷ [] → is_reserved name ≡ true
com-from name d low high e =
    let p = port-cut name (codes "COM") d e low high in
    or_right _ _ (and_from _ _
    (and_from _ _ (or_left _ _ (same-from (rest name) (codes "COM") p.0))
    (le-leb 49 (last name) (omega (arith, p.1)))) (le-leb (last name) 57 (omega (arith, p.1))))

lpt-from : (name : List ℕ) (d : ℕ) → 49 ≤ d → d ≤ 57 → upper name ≡ codes "LPT" ++ d ∷ [] → is_reserved name ≡ true
lpt-from name d low high e =
    let p = port-cut name (codes "LPT") d e low high in
    or_right _ _ (and_from _ _
    (and_from _ _ (or_right _ _ (same-from (rest name) (codes "LPT") p.0))
    (le-leb 49 (last name) (omega (arith, p.1)))) (le-leb (last name) 57 (omega (arith, p.1))))

-- the test of reserved names finds each of the 22 names, in any case
reserved-from : (name : List ℕ) → IsReserved name → is_reserved name ≡ true
reserved-from name c =
    let P : List ℕ → Type 0 = λ word. upper name ≡ word → is_reserved name ≡ true in
    let com_at : (d : ℕ) → 49 ≤ d → d ≤ 57 → P (codes "COM" ++ d ∷ []) = com-from name in
    let lpt_at : (d : ℕ) → 49 ≤ d → d ≤ 57 → P (codes "LPT" ++ d ∷ []) = lpt-from name in
    All-contains P reserved_names (upper name) (All-from_recursion P reserved_names (
      λ e. or_left _ _ (or_left _ _ (or_left _ _ (or_left _ _ (same-from name (codes "CON") e)))),
      (
        λ e. or_left _ _ (or_left _ _ (or_left _ _ (or_right _ _ (same-from name (codes "PRN") e)))),
        (
          λ e. or_left _ _ (or_left _ _ (or_right _ _ (same-from name (codes "AUX") e))),
          (
            λ e. or_left _ _ (or_right _ _ (same-from name (codes "NUL") e)),
            (
              com_at 49 (omega arith) (omega arith),
              (
                com_at 50 (omega arith) (omega arith),
                (
                  com_at 51 (omega arith) (omega arith),
                  (
                    com_at 52 (omega arith) (omega arith),
                    (
                      com_at 53 (omega arith) (omega arith),
                      (
                        com_at 54 (omega arith) (omega arith),
                        (
                          com_at 55 (omega arith) (omega arith),
                          (
                            com_at 56 (omega arith) (omega arith),
                            (
                              com_at 57 (omega arith) (omega arith),
                              (
                                lpt_at 49 (omega arith) (omega arith),
                                (
                                  lpt_at 50 (omega arith) (omega arith),
                                  (
                                    lpt_at 51 (omega arith) (omega arith),
                                    (
                                      lpt_at 52 (omega arith) (omega arith),
                                      (
                                        lpt_at 53 (omega arith) (omega arith),
                                        (
                                          lpt_at 54 (omega arith) (omega arith),
                                          (
                                            lpt_at 55 (omega arith) (omega arith),
                                            (
                                              lpt_at 56 (omega arith) (omega arith),
                                              (lpt_at 57 (omega arith) (omega arith), tt),
                                            ),
                                          ),
                                        ),
                                      ),
                                    ),
                                  ),
                                ),
                              ),
                            ),
                          ),
                        ),
                      ),
                    ),
                  ),
                ),
              ),
            ),
          ),
        ),
      ),
    )) c refl

pub reserved_names_are_exact : ReservedNamesAreExact
reserved_names_are_exact name = (reserved-to name, reserved-from name)
