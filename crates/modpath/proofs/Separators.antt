-- A text around its first separator, and around its last.
use Rattle.std.proofs.Common.{◌≡◌, ◌==◌, ◌⊎◌, ◌++◌, ℕ, List, [], ◌∷◌, Bool, true, false, refl, sym, ap, ◌∙◌, inl, inr}
use Rattle.std.proofs.Common.{append_assoc}
use Rattle.std.proofs.lemmas.Bool.{cases_Bool, eq-eqb, eqb-true}
use Rattle.std.proofs.lemmas.List.{same_from_push}
use Rattle.std.specs.List.{list_all, list_any, onto_first, slice_split}
use Rattle.modpath.specs.Path.{last_or}
use Rattle.modpath.proofs.CheckEach.{last_or-push, fields-shape}

-- whether a text has a byte
abbrev pub has : ℕ → List ℕ → Bool
has sep text = list_any (λ b. b == sep) text

-- a text without separator is its one field
pub split_none : (sep : ℕ) (text : List ℕ) → has sep text ≡ false → slice_split (λ b. b == sep) text ≡ text ∷ []
split_none sep [] h = refl
split_none sep (b ∷ rest) h = elim (cases_Bool (b == sep)) [
  | inl here ↦ cc (rw here at h)
  | inr other ↦ rw (other, split_none sep rest (rw other at h)) refl
]

-- a text is cut at its first separator
pub split_first : (sep : ℕ) (first rest : List ℕ) → has sep first ≡ false
    → slice_split (λ b. b == sep) (first ++ sep ∷ rest) ≡ first ∷ slice_split (λ b. b == sep) rest
split_first sep [] rest h = rw (eq-eqb sep sep refl) refl
split_first sep (b ∷ first) rest h = elim (cases_Bool (b == sep)) [
  | inl here ↦ cc (rw here at h)
  | inr other ↦ rw (other, split_first sep first rest (rw other at h)) refl
]

onto-push : (b : ℕ) (fields : List (List ℕ)) (first : List ℕ) (others : List (List ℕ)) (last : List ℕ)
    → fields ≡ first ∷ others
    → onto_first b (fields ++ last ∷ []) ≡ onto_first b fields ++ last ∷ []
onto-push b fields first others last e = rw e refl

-- and at its last
pub split_last : (sep : ℕ) (front last : List ℕ) → has sep last ≡ false
    → slice_split (λ b. b == sep) (front ++ sep ∷ last) ≡ slice_split (λ b. b == sep) front ++ last ∷ []
split_last sep [] last h = rw (eq-eqb sep sep refl, split_none sep last h) refl
split_last sep (b ∷ front) last h =
    let ih = split_last sep front last h in
    elim (cases_Bool (b == sep)) [
      | inl here ↦ rw (here, ih) refl
      | inr other ↦
          let s = fields-shape sep front in
          rw (other, ih) (onto-push b (slice_split (λ x. x == sep) front) s.0 s.1 last s.2)
    ]

-- what stands around the last separator is one front and one last field
pub last_unique : (sep : ℕ) (front last other_front other_last : List ℕ)
    → front ++ sep ∷ last ≡ other_front ++ sep ∷ other_last
    → has sep last ≡ false → has sep other_last ≡ false → last ≡ other_last
last_unique sep front last other_front other_last e h k =
    (same_from_push _ _ last other_last
    (sym (split_last sep front last h) ∙ ap (slice_split (λ b. b == sep)) e
    ∙ split_last sep other_front other_last k)).1

-- a text that has a separator has a first and a last
pub record Cut (sep : ℕ) (text : List ℕ) : Type 0 where
  pub first : List ℕ
  pub rest : List ℕ
  pub front : List ℕ
  pub last : List ℕ
  pub at_first : text ≡ first ++ sep ∷ rest
  pub at_last : text ≡ front ++ sep ∷ last
  pub none_in_first : has sep first ≡ false
  pub none_in_last : has sep last ≡ false
  pub is_last : last_or [] (slice_split (λ b. b == sep) rest) ≡ last

pub cut-first : (sep : ℕ) (text : List ℕ) → has sep text ≡ true
    → (first : List ℕ) × (rest : List ℕ) × (text ≡ first ++ sep ∷ rest) × (has sep first ≡ false)
cut-first sep [] h = cc h
cut-first sep (b ∷ text) h = elim (cases_Bool (b == sep)) [
  | inl here ↦ ([], text, ap (λ x. x ∷ text) (eqb-true b sep here), refl)
  | inr other ↦
      let r = cut-first sep text (rw other at h) in
      (b ∷ r.0, r.1, ap (λ (l : List ℕ). b ∷ l) r.2, rw other r.3)
]

-- a text has no separator, or it is a front, a separator and a last field without one
pub cut-last : (sep : ℕ) (text : List ℕ)
    → (has sep text ≡ false)
    ⊎ ((front : List ℕ) × (last : List ℕ) × (text ≡ front ++ sep ∷ last) × (has sep last ≡ false))
cut-last sep [] = inl refl
cut-last sep (b ∷ text) = elim (cut-last sep text) [
  | inr r ↦ inr (b ∷ r.0, r.1, ap (λ (l : List ℕ). b ∷ l) r.2, r.3)
  | inl none ↦ elim (cases_Bool (b == sep)) [
    | inl here ↦ inr ([], text, ap (λ x. x ∷ text) (eqb-true b sep here), none)
    | inr other ↦ inl (rw other none)
  ]
]

-- a text that has a separator can be cut at its first one and at its last one
pub cut : (sep : ℕ) (text : List ℕ) → has sep text ≡ true → Cut sep text
cut sep text h =
    let f = cut-first sep text h in
    elim (cut-last sep f.1) [
      | inl none ↦ record {
        first = f.0;
        rest = f.1;
        front = f.0;
        last = f.1;
        at_first = f.2;
        at_last = f.2;
        none_in_first = f.3;
        none_in_last = none;
        is_last = rw (split_none sep f.1 none) refl;
      }
      | inr l ↦ record {
        first = f.0;
        rest = f.1;
        front = f.0 ++ sep ∷ l.0;
        last = l.1;
        at_first = f.2;
        at_last = f.2 ∙ ap (λ (r : List ℕ). f.0 ++ sep ∷ r) l.2 ∙ sym (append_assoc f.0 (sep ∷ l.0) (sep ∷ l.1));
        none_in_first = f.3;
        none_in_last = l.3;
        is_last = ap (λ r. last_or [] (slice_split (λ b. b == sep) r)) l.2
            ∙ ap (last_or []) (split_last sep l.0 l.1 l.3)
            ∙ last_or-push [] (slice_split (λ b. b == sep) l.0) l.1;
      }
    ]

-- digits have no byte that is no digit
pub digits-have_no : (c : ℕ) (p : ℕ → Bool) → p c ≡ false → (ds : List ℕ) → list_all p ds ≡ true → has c ds ≡ false
digits-have_no c p h [] a = refl
digits-have_no c p h (d ∷ ds) a = elim (cases_Bool (d == c)) [
  | inl same ↦
      let e : p d ≡ false = ap p (eqb-true d c same) ∙ h in
      cc (rw e at a)
  | inr other ↦ elim (cases_Bool (p d)) [
    | inl yes_digit ↦ rw other (digits-have_no c p h ds (rw yes_digit at a))
    | inr no_digit ↦ cc (rw no_digit at a)
  ]
]
