-- The elements of a text are what stands between its slashes, and a stem is what stands before the first dot.
use Rattle.std.proofs.Common.{◌≡◌, ◌==◌, ◌++◌, ℕ, List, [], ◌∷◌, false, not, refl, sym, ap, ◌∙◌, inl, inr, append_assoc}
use Rattle.std.proofs.Common.{subst}
use Rattle.std.proofs.lemmas.Bool.{cases_Bool, false_from_ne_true}
use Rattle.std.proofs.lemmas.List.Elements.{All-cons, All-head, All-nil, All-tail, All-weaker}
use Rattle.std.proofs.lemmas.List.Splits.{join_with_byte-slice_split}
use Rattle.std.proofs.lemmas.List.Sums.{take_while-cons}
use Rattle.std.specs.List.{All, Contains, onto_first, slice_split}
use Rattle.modpath.specs.ModulePath.{IsStem}
use Rattle.modpath.specs.Path.{elements, stem}
use Rattle.modpath.specs.PathLaws.{ElementsAreExact, StemsAreExact}
use Rattle.modpath.proofs.CheckEach.{fields-shape}
use Rattle.modpath.proofs.ElementLaw.{any_exact}
use Rattle.modpath.proofs.Separators.{cut-first, has}

-- a test that fails, by the fact that it tests
has-none : (sep : ℕ) (text : List ℕ) → has sep text ≡ false → ¬ Contains text sep
has-none sep text h u = cc ((any_exact sep text).1 u, h)

none-has : (sep : ℕ) (text : List ℕ) → (¬ Contains text sep) → has sep text ≡ false
none-has sep text n = false_from_ne_true (has sep text) (λ h. n ((any_exact sep text).0 h))

-- ---- elements

onto-none : (sep b : ℕ) (fields : List (List ℕ)) (first : List ℕ) (others : List (List ℕ)) → fields ≡ first ∷ others
    → (b == sep) ≡ false
    → All (λ e. has sep e ≡ false) fields → All (λ e. has sep e ≡ false) (onto_first b fields)
onto-none sep b fields first others shape other all =
    let none : All (λ e. has sep e ≡ false) (first ∷ others) = rw shape at all in
    rw shape (All-cons (λ e. has sep e ≡ false) (b ∷ first) others
    (rw other (All-head (λ e. has sep e ≡ false) first others none))
    (All-tail (λ e. has sep e ≡ false) first others none))

-- no field of a text that is split at a separator has one
none-in-fields : (sep : ℕ) (text : List ℕ) → All (λ e. has sep e ≡ false) (slice_split (λ b. b == sep) text)
none-in-fields sep [] = All-cons (λ e. has sep e ≡ false) [] [] refl (All-nil (λ e. has sep e ≡ false))
none-in-fields sep (b ∷ text) =
    let ih = none-in-fields sep text in
    elim (cases_Bool (b == sep)) [
      | inl here ↦ rw here (All-cons (λ e. has sep e ≡ false) [] (slice_split (λ x. x == sep) text) refl ih)
      | inr other ↦
          let s = fields-shape sep text in
          rw other (onto-none sep b (slice_split (λ x. x == sep) text) s.0 s.1 s.2 other ih)
    ]

pub elements_are_exact : ElementsAreExact
elements_are_exact text = record {
  joined = join_with_byte-slice_split 47 text;
  no_slash = All-weaker (λ e. has 47 e ≡ false) (λ e. ¬ Contains e 47) (has-none 47) (elements text)
      (none-in-fields 47 text);
}

-- ---- stems

stem-cons : (b : ℕ) (rest : List ℕ) → (b == 46) ≡ false → stem (b ∷ rest) ≡ b ∷ stem rest
stem-cons b rest h = take_while-cons (λ x. not (x == 46)) b rest ∙ rw h refl

stem-whole : (e : List ℕ) → has 46 e ≡ false → stem e ≡ e
stem-whole [] h = refl
stem-whole (b ∷ rest) h = elim (cases_Bool (b == 46)) [
  | inl here ↦ cc (rw here at h)
  | inr other ↦ stem-cons b rest other ∙ ap (λ (l : List ℕ). b ∷ l) (stem-whole rest (rw other at h))
]

stem-cut : (name rest : List ℕ) → has 46 name ≡ false → stem (name ++ 46 ∷ rest) ≡ name
stem-cut [] rest h = refl
stem-cut (b ∷ name) rest h = elim (cases_Bool (b == 46)) [
  | inl here ↦ cc (rw here at h)
  | inr other ↦ stem-cons b (name ++ 46 ∷ rest) other ∙ ap (λ (l : List ℕ). b ∷ l) (stem-cut name rest (rw other at h))
]

dot-after : (name rest : List ℕ) → name ++ 46 ∷ rest ≡ name ++ (46 ∷ []) ++ rest
dot-after name rest = sym (append_assoc name (46 ∷ []) rest)

own-stem : (e : List ℕ) → IsStem e (stem e)
own-stem e = elim (cases_Bool (has 46 e)) [
  | inr none ↦ record {
    no_dot = subst (λ (n : List ℕ). ¬ Contains n 46) (sym (stem-whole e none)) (has-none 46 e none);
    beginning = inl (sym (stem-whole e none));
  }
  | inl some ↦
      let c = cut-first 46 e some in
      let s : stem e ≡ c.0 = ap stem c.2 ∙ stem-cut c.0 c.1 c.3 in
      record {
        no_dot = rw s (has-none 46 c.0 c.3);
        beginning =
            inr (c.1, c.2 ∙ dot-after c.0 c.1 ∙ ap (λ (n : List ℕ). n ++ (46 ∷ []) ++ c.1) (sym s));
      }
]

stem-from : (e name : List ℕ) → IsStem e name → stem e ≡ name
stem-from e name u = elim u.beginning [
  | inl same ↦ ap stem same ∙ stem-whole name (none-has 46 name u.no_dot)
  | inr b ↦ ap stem (b.1 ∙ sym (dot-after name b.0)) ∙ stem-cut name b.0 (none-has 46 name u.no_dot)
]

pub stems_are_exact : StemsAreExact
stems_are_exact e name = (λ h. subst (IsStem e) h (own-stem e), stem-from e name)
