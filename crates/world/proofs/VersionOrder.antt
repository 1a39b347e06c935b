-- The order of versions by precedence and text distinguishes all of them.
use Rattle.std.proofs.Common.{◌≡◌, ℕ, List, [], ◌∷◌, ◌++◌, Bool, true, false, refl, sym, ap, ◌∙◌, inl, inr}
use Rattle.std.proofs.Common.{append_assoc, true≢false}
use Rattle.std.proofs.lemmas.Bool.{cases_Bool}
use Rattle.std.proofs.lemmas.List.{append_cancel_left}
use Rattle.std.specs.Char.{is_ascii_digit}
use Rattle.std.specs.Cmp.Lexicographic.{slice_cmp}
use Rattle.std.specs.Fmt.{decimal}
use Rattle.std.specs.FinMap.{IsAntisymmetric, nat_cmp-IsAntisymmetric, slice_cmp-IsAntisymmetric}
use Rattle.std.specs.List.{join_with_byte}
use Rattle.std.specs.declared.cmp.Ordering.TheVariants.{Equal}
use Rattle.modver.proofs.Conditions.{and-first, and-second, then_first, then_second}
use Rattle.modver.specs.Precedence.{identifier_cmp, precedence, pre_release_cmp}
use Rattle.modver.specs.SemanticVersion.{build_text, is_numeric, mark_of, pre_release_text, text_with_build}
use Rattle.modver.specs.SemanticVersion.{version_text}
use Rattle.world.specs.Versions.{version_cmp}

-- ---- where an identifier ends

-- a text that does not go on with a digit
abbrev EndsDigits : List ℕ → Type 0
EndsDigits [] = Unit {0}
EndsDigits (c ∷ cs) = is_ascii_digit c ≡ false

no_digit : (s : List ℕ) (c : ℕ) (cs : List ℕ) → EndsDigits s → is_ascii_digit c ≡ true → s ≡ c ∷ cs → ⊥
no_digit [] c cs ends digit e = cc e
no_digit (b ∷ bs) c cs ends digit e = let same : b ≡ c = cc e in
    true≢false (sym digit ∙ ap is_ascii_digit (sym same) ∙ ends)

digits_end : (x y s t : List ℕ) → is_numeric x ≡ true → is_numeric y ≡ true → EndsDigits s → EndsDigits t
    → x ++ s ≡ y ++ t → (x ≡ y) × (s ≡ t)
digits_end [] [] s t nx ny es et e = (refl, e)
digits_end [] (d ∷ y) s t nx ny es et e = absurd (no_digit s d (y ++ t) es (and-first _ _ ny) e)
digits_end (c ∷ x) [] s t nx ny es et e = absurd (no_digit t c (x ++ s) et (and-first _ _ nx) (sym e))
digits_end (c ∷ x) (d ∷ y) s t nx ny es et e =
    let head : c ≡ d = cc e in
    let tail : x ++ s ≡ y ++ t = cc e in
    let rest : (x ≡ y) × (s ≡ t) = digits_end x y s t (and-second _ _ nx) (and-second _ _ ny) es et tail in
    ((λ i. head i ∷ rest.0 i), rest.1)

-- two identifiers that tie end where they do
identifier_ends : (x y s t : List ℕ) → identifier_cmp x y ≡ Equal → EndsDigits s → EndsDigits t → x ++ s ≡ y ++ t
    → (x ≡ y) × (s ≡ t)
identifier_ends x y s t tie es et e = elim (cases_Bool (is_numeric x)) [
  | inl nx ↦ elim (cases_Bool (is_numeric y)) [
    | inl ny ↦ digits_end x y s t nx ny es et e
    | inr ny ↦ cc (rw (nx, ny) at tie)
  ]
  | inr nx ↦ elim (cases_Bool (is_numeric y)) [
    | inl ny ↦ cc (rw (nx, ny) at tie)
    | inr ny ↦
        let same : x ≡ y = slice_cmp-IsAntisymmetric nat_cmp-IsAntisymmetric x y (rw (nx, ny) at tie) in
        (same, append_cancel_left y s t (ap (λ (z : List ℕ). z ++ s) (sym same) ∙ e))
  ]
]

-- ---- what stands behind the numbers

mark_ends : (m : Bool) → EndsDigits (build_text (mark_of m))
mark_ends true = refl
mark_ends false = tt

same_mark : (m n : Bool) → build_text (mark_of m) ≡ build_text (mark_of n) → m ≡ n
same_mark true true e = refl
same_mark true false e = cc e
same_mark false true e = cc e
same_mark false false e = refl

-- identifiers that tie one by one, and whose joined texts with the marks are equal, are equal, and so are the marks
identifiers_same : (x y : List ℕ) (xs ys : List (List ℕ)) (m n : Bool)
    → slice_cmp identifier_cmp (x ∷ xs) (y ∷ ys) ≡ Equal
    → join_with_byte 46 (x ∷ xs) ++ build_text (mark_of m) ≡ join_with_byte 46 (y ∷ ys) ++ build_text (mark_of n)
    → (x ∷ xs ≡ y ∷ ys) × (m ≡ n)
identifiers_same x y [] [] m n tie e =
    let ends = identifier_ends x y _ _ (then_first (identifier_cmp x y) _ tie) (mark_ends m) (mark_ends n) e in
    (ap (λ (z : List ℕ). z ∷ []) ends.0, same_mark m n ends.1)
identifiers_same x y [] (w ∷ ys) m n tie e = cc (then_second (identifier_cmp x y) _ tie)
identifiers_same x y (z ∷ xs) [] m n tie e = cc (then_second (identifier_cmp x y) _ tie)
identifiers_same x y (z ∷ xs) (w ∷ ys) m n tie e =
    let ends = identifier_ends x y (46 ∷ (join_with_byte 46 (z ∷ xs) ++ build_text (mark_of m)))
    (46 ∷ (join_with_byte 46 (w ∷ ys) ++ build_text (mark_of n)))
    (then_first (identifier_cmp x y) _ tie) refl refl
    (sym (append_assoc x (46 ∷ join_with_byte 46 (z ∷ xs)) (build_text (mark_of m))) ∙ e
    ∙ append_assoc y (46 ∷ join_with_byte 46 (w ∷ ys)) (build_text (mark_of n))) in
    let behind : join_with_byte 46 (z ∷ xs) ++ build_text (mark_of m) ≡ join_with_byte 46 (w ∷ ys)
    ++ build_text (mark_of n) = cc ends.1 in
    let rest = identifiers_same z w xs ys m n (then_second (identifier_cmp x y) _ tie) behind in
    (cc (ends.0, rest.0), rest.1)

pre_release_same : (xs ys : List (List ℕ)) (m n : Bool) → pre_release_cmp xs ys ≡ Equal
    → pre_release_text xs ++ build_text (mark_of m) ≡ pre_release_text ys ++ build_text (mark_of n)
    → (xs ≡ ys) × (m ≡ n)
pre_release_same [] [] m n tie e = (refl, same_mark m n e)
pre_release_same [] (y ∷ ys) m n tie e = cc tie
pre_release_same (x ∷ xs) [] m n tie e = cc tie
pre_release_same (x ∷ xs) (y ∷ ys) m n tie e =
    let behind : join_with_byte 46 (x ∷ xs) ++ build_text (mark_of m) ≡ join_with_byte 46 (y ∷ ys)
    ++ build_text (mark_of n) = cc e in
    identifiers_same x y xs ys m n tie behind

-- ---- the whole text

tail_same : (c : ℕ) (s t : List ℕ) → c ∷ s ≡ c ∷ t → s ≡ t
tail_same c s t e = cc e

behind_numbers : (a b c : ℕ) (xs ys : List (List ℕ)) (u v : List ℕ)
    → text_with_build a b c xs u ≡ text_with_build a b c ys v
    → pre_release_text xs ++ build_text u ≡ pre_release_text ys ++ build_text v
behind_numbers a b c xs ys u v e =
    append_cancel_left (decimal c) _ _
    (tail_same 46 _ _ (append_cancel_left (decimal b) _ _
    (tail_same 46 _ _ (append_cancel_left (decimal a) _ _ (tail_same 118 _ _ e)))))

-- two versions that tie in the order are equal
pub versions_exact : IsAntisymmetric version_cmp
versions_exact u v e =
    let tie : precedence u v ≡ Equal = then_first (precedence u v) _ e in
    let text : version_text u ≡ version_text v =
    slice_cmp-IsAntisymmetric nat_cmp-IsAntisymmetric (version_text u) (version_text v)
    (then_second (precedence u v) _ e) in
    let major : u.major ≡ v.major = nat_cmp-IsAntisymmetric u.major v.major (then_first _ _ tie) in
    let below_major = then_second _ _ tie in
    let minor : u.minor ≡ v.minor = nat_cmp-IsAntisymmetric u.minor v.minor (then_first _ _ below_major) in
    let below_minor = then_second _ _ below_major in
    let patch : u.patch ≡ v.patch = nat_cmp-IsAntisymmetric u.patch v.patch (then_first _ _ below_minor) in
    let numbered = ap (λ (n : ℕ). text_with_build n u.minor u.patch u.identifiers (mark_of u.marked)) major
    ∙ ap (λ (n : ℕ). text_with_build v.major n u.patch u.identifiers (mark_of u.marked)) minor
    ∙ ap (λ (n : ℕ). text_with_build v.major v.minor n u.identifiers (mark_of u.marked)) patch in
    let rest = pre_release_same u.identifiers v.identifiers u.marked v.marked (then_second _ _ below_minor)
    (behind_numbers v.major v.minor v.patch u.identifiers v.identifiers (mark_of u.marked) (mark_of v.marked)
    (sym numbered ∙ text)) in
    λ i. record { major = major i; minor = minor i; patch = patch i; identifiers = rest.0 i; marked = rest.1 i }
