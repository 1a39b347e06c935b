-- How many counts there are after one more is kept.
use Rattle.std.proofs.Common.{◌≡◌, ◌∙◌, ◌+◌, ◌⊎◌, ℕ, List, [], ◌∷◌, Bool, true, false, cond, Option, Some, None, inl}
use Rattle.std.proofs.Common.{inr, refl, sym, ap, subst, arith, Contains}
use Rattle.std.specs.Prelude.{◌≤◌, option_and_then}
use Rattle.std.specs.Ordering.{eq_by_cmp}
use Rattle.std.specs.FinMap as map
use Rattle.std.proofs.lemmas.Map.Views.{tells_apart}
use Rattle.lru.proofs.Splits.{Contains-head, Contains-tail}
use Rattle.world.specs.World.{text_cmp}
use Rattle.world.specs.FinMaps.{get_under, put_under}
use Rattle.world.specs.Counts.{Tally}
use Rattle.world.proofs.Orders.{texts_exact}
use Rattle.world.proofs.MapsNested.{get_put_under}
use Rattle.cache.specs.Counts.{HasAtMost}

pub none_counted : (t : Tally) → t ≡ map.empty → (n : ℕ) → HasAtMost t n
none_counted t none n = (
  [],
  omega arith,
  λ s p m at. let never : ◌≡◌ {A = Option ℕ} None (Some m) =
      sym (ap (λ x. get_under x s p) none ∙ ap (option_and_then (λ i. map.get i p)) (map.get-empty text_cmp s))
      ∙ at in cc never,
)

-- what is there after a count is put is that count, or was there before
put_or_before : (b d : Bool) (m k : ℕ) (old : Option ℕ) → cond b (cond d (Some m) old) old ≡ Some k
    → ((b ≡ true) × (d ≡ true)) ⊎ (old ≡ Some k)
put_or_before true true m k old e = inl (refl, refl)
put_or_before true false m k old e = inr e
put_or_before false d m k old e = inr e

module _ (t : Tally) (s p : List ℕ) (m : ℕ) where
  there : (s' p' : List ℕ) (k : ℕ) → get_under (put_under t s p m) s' p' ≡ Some k
      → ((s' ≡ s) × (p' ≡ p)) ⊎ (get_under t s' p' ≡ Some k)
  there s' p' k at = elim (put_or_before (eq_by_cmp text_cmp s' s) (eq_by_cmp text_cmp p' p) m k (get_under t s' p')
      (sym (get_put_under t s p m s' p') ∙ at)) [
        | inl here ↦ inl (tells_apart texts_exact s' s here.0, tells_apart texts_exact p' p here.1)
        | inr before ↦ inr before
      ]

  at_pair : (pairs : List (List ℕ × List ℕ)) (s' p' : List ℕ) → s' ≡ s → p' ≡ p → Contains pairs (s, p)
      → Contains pairs (s', p')
  at_pair pairs s' p' shelf path has =
      subst (λ x. Contains pairs (x, p')) (sym shelf) (subst (λ x. Contains pairs (s, x)) (sym path) has)

  pub one_more_counted : (after : Tally) (n : ℕ) → (after ≡ put_under t s p m) ⊎ (after ≡ map.empty) → HasAtMost t n
      → HasAtMost after (n + 1)
  one_more_counted after n (inr none) has = none_counted after none (n + 1)
  one_more_counted after n (inl put) has = subst (λ x. HasAtMost x (n + 1)) (sym put) (
    (s, p) ∷ has.0,
    (let few = has.1 in omega (arith, few)),
    λ s' p' k at. elim (there s' p' k at) [
      | inl here ↦ at_pair ((s, p) ∷ has.0) s' p' here.0 here.1 (Contains-head (s, p) has.0)
      | inr before ↦ Contains-tail (s, p) has.0 (s', p') (has.2 s' p' k before)
    ],
  )

  pub as_many_counted : (after : Tally) (n k : ℕ) → (after ≡ put_under t s p m) ⊎ (after ≡ map.empty)
      → get_under t s p ≡ Some k → HasAtMost t n → HasAtMost after n
  as_many_counted after n k (inr none) kept has = none_counted after none n
  as_many_counted after n k (inl put) kept has = subst (λ x. HasAtMost x n) (sym put) (
    has.0,
    has.1,
    λ s' p' j at. elim (there s' p' j at) [
      | inl here ↦ at_pair has.0 s' p' here.0 here.1 (has.2 s p k kept)
      | inr before ↦ has.2 s' p' j before
    ],
  )

-- the most that are noted may be more
pub counted_within : (t : Tally) (n most : ℕ) → HasAtMost t n → n ≤ most → HasAtMost t most
counted_within t n most has within = (has.0, (let few = has.1 in omega (arith, few, within)), has.2)
