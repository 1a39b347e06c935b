-- What a finite map holds after one insertion, and what is empty.
use Rattle.std.proofs.Common.{◌≡◌, ◌⊎◌, ◌∙◌, ◌||◌, ℕ, List, ap, sym, Option, Some, None, is_some, inl, inr, true≢false}
use Rattle.std.proofs.Common.{IsTrue}
use Rattle.std.specs.FinMap as map
use Rattle.std.specs.FinSet as set
use Rattle.std.specs.Ordering.{eq_by_cmp, is_eq}
use Rattle.std.specs.declared.cmp.Ordering.{Ordering}
use Rattle.std.specs.Cmp.{IsTotalOrder, tied_itself}
use Rattle.std.proofs.lemmas.Map.Views.{tells_apart}
use Rattle.std.proofs.lemmas.Bool.{cases_Bool}
use Rattle.world.specs.World.{text_cmp}
use Rattle.world.proofs.Orders.{texts_total, texts_exact, get_elsewhere}
use Rattle.world.proofs.Sound.{at_or_before}

module _ {K X : Type 0} {R : K → K → Ordering} (o : IsTotalOrder R) (exact : map.IsAntisymmetric R) (m : map.FinMap R X)
    (k : K) (x : X) where
  -- where nothing was, what was there stays
  pub put_keeps : map.get m k ≡ None → (q : K) (y : X) → map.get m q ≡ Some y → map.get (map.insert m k x) q ≡ Some y
  put_keeps free q y is = get_elsewhere o exact m k x q
      (λ same. absurd (let e = sym free ∙ (ap (map.get m) (sym same) ∙ is) in cc)) ∙ is

  pub put_splits : (it : K × X) → map.get (map.insert m k x) it.0 ≡ Some it.1
      → (it ≡ (k, x)) ⊎ (map.get m it.0 ≡ Some it.1)
  put_splits it is = elim (at_or_before o exact m k it.0 x it.1 is) [
    | inl here ↦ inl (λ i. (sym here.0 i, sym here.1 i))
    | inr before ↦ inr before
  ]

-- ---- sets of texts

pub text_put : (s : set.FinSet text_cmp) (t : List ℕ) → IsTrue (set.contains (set.insert s t) t)
text_put s t = set.contains-insert texts_total s t t ∙ ap (λ r. is_eq r || set.contains s t) (tied_itself texts_total t)

pub text_splits : (s : set.FinSet text_cmp) (t x : List ℕ) → IsTrue (set.contains (set.insert s t) x)
    → (x ≡ t) ⊎ IsTrue (set.contains s x)
text_splits s t x h = elim (cases_Bool (eq_by_cmp text_cmp x t)) [
  | inl same ↦ inl (tells_apart texts_exact x t same)
  | inr apart ↦ inr (ap (λ b. b || set.contains s x) (sym apart) ∙ (sym (set.contains-insert texts_total s t x) ∙ h))
]

pub no_text : (x : List ℕ) → IsTrue (set.contains (set.empty {R = text_cmp}) x) → ⊥
no_text x h = true≢false (sym h ∙ set.contains-empty text_cmp x)

-- ---- what is empty

pub none_in_empty : {K X : Type 0} (R : K → K → Ordering) (q : K) (x : X)
    → map.get (map.empty {X = X} {R = R}) q ≡ Some x → ⊥
none_in_empty {K} {X} R q x e = true≢false (sym (ap (λ (o : Option X). is_some o) (sym (map.get-empty R q) ∙ e)))
