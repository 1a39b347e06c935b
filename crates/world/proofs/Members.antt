-- The members of lists, and of sets in their order.
use Rattle.std.proofs.Common.{◌≡◌, ◌<◌, ℕ, zero, suc, List, [], ◌∷◌, true, refl, ◌∙◌, sym, ap, subst, inl, inr, ◌⊎◌}
use Rattle.std.proofs.Common.{length, get_or, arith}
use Rattle.std.specs.Prelude.{Contains, map as each}
use Rattle.std.specs.Cmp.{IsTotalOrder, tied_itself}
use Rattle.std.specs.FinMap as map
use Rattle.std.specs.FinSet as set
use Rattle.std.specs.Ordering.{eq_by_cmp, is_eq, is_lt}
use Rattle.std.specs.declared.cmp.Ordering.{Ordering}
use Rattle.std.specs.declared.cmp.Ordering.TheVariants.{Less, Equal, Greater}
use Rattle.std.proofs.lemmas.List.Folds.{Any-from_list_any, list_any-from_Any}
use Rattle.std.proofs.lemmas.Map.Views.{tells_apart}
use lib.Dec.{T}
use Rattle.world.specs.Lines.{in_order, EachToNext}
use Rattle.world.proofs.InOrder.{first, second, in_order-members}

-- ---- lists

pub no_member : {A : Type 0} (y : A) → Contains [] y → ⊥
no_member y at = omega (arith, at.1)

pub first_member : {A : Type 0} (x : A) (xs : List A) → Contains (x ∷ xs) x
first_member x xs = (0, omega arith, refl)

pub later_member : {A : Type 0} (x y : A) (xs : List A) → Contains xs y → Contains (x ∷ xs) y
later_member x y xs at = (suc at.0, omega (arith, at.1), at.2)

pub member_cases : {A : Type 0} (x y : A) (xs : List A) → Contains (x ∷ xs) y → (x ≡ y) ⊎ Contains xs y
member_cases x y xs at = by_place at.0 at.1 at.2
  where
    by_place : (k : ℕ) → k < length (x ∷ xs) → get_or (x ∷ xs) k y ≡ y → (x ≡ y) ⊎ Contains xs y
    by_place zero less is = inl is
    by_place (suc k) less is = inr (k, omega (arith, less), is)

-- ---- sets

less : (o : Ordering) → T (is_lt o) → o ≡ Less
less Less h = refl
less Equal h = absurd h
less Greater h = absurd h

module _ {K : Type 0} (R : K → K → Ordering) where
  rises : (es : List (K × Unit {0})) → T (map.is_sorted R es) → EachToNext (λ x y. R x y ≡ Less) (each (λ e. e.0) es)
  rises [] h = tt
  rises (e ∷ []) h = tt
  rises (e ∷ f ∷ es) h = (less (R e.0 f.0) (first _ _ (first _ _ h)), rises (f ∷ es) (second _ _ h))

  pub in_order_rises : (s : set.FinSet R) → EachToNext (λ x y. R x y ≡ Less) (in_order s)
  unfolding in_order
  in_order_rises s = rises _ (map.entries_sorted _)

module _ {K : Type 0} {R : K → K → Ordering} (o : IsTotalOrder R) (exact : map.IsAntisymmetric R) (s : set.FinSet R)
    (q : K) where
  pub in_order_of : set.contains s q ≡ true → Contains (in_order s) q
  in_order_of e =
      let any = Any-from_list_any (eq_by_cmp R q) (in_order s) (in_order-members o s q ∙ e) in
      subst (Contains (in_order s)) (sym (tells_apart exact q any.1 any.4)) (any.0, any.2, any.3)

  pub in_set_of : Contains (in_order s) q → set.contains s q ≡ true
  in_set_of at = sym (in_order-members o s q)
      ∙ list_any-from_Any (eq_by_cmp R q) (in_order s) (at.0, q, at.1, at.2, ap is_eq (tied_itself o q))
