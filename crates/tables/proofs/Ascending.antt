-- Lists in order: each element with the next one, and with each later one.
use Rattle.std.proofs.Common.{◌≡◌, ◌<◌, ◌+◌, ◌++◌, ℕ, suc, Bool, true, false, cond, List, [], ◌∷◌, length}
use Rattle.std.proofs.Common.{map as mapped, filter, get_or}
use Rattle.std.proofs.Common.{IsPermutation, inl, inr, refl, sym, ap, subst, ◌∙◌, arith, add-one, true≢false, Less}
use Rattle.std.proofs.Common.{Equal, Greater}
use Rattle.std.specs.Prelude.{IsSorted}
use Rattle.std.specs.List.{AllByRecursion}
use Rattle.std.specs.Ordering.{is_lt, ordering_reverse}
use Rattle.std.specs.declared.cmp.Ordering.{Ordering}
use Rattle.std.specs.Cmp.{IsTotalOrder}
use Rattle.std.specs.FinMap as map
use Rattle.std.proofs.lemmas.List.Sorted.{length_permutation}
use Rattle.sqlite_trees.specs.Tree.{IsAscending}
use Rattle.sqlite_trees.proofs.ListLemmas.{all-permutation, all_weaker, along_permutation, IsPermutation-filter}
use Rattle.sqlite_rules.specs.Lists.{Has}
use Rattle.sqlite_rules.proofs.ListLemmas.{all_has, all_from, has_left, has_right}
use Rattle.sqlite_rules.proofs.ProbeLemmas.{mapped_has}

module _ {X : Type 0} (P : X → X → Type 0) where
  -- from this element on, each with the next
  abbrev pub Steps : X → List X → Type 0
  Steps x [] = Unit {0}
  Steps x (y ∷ ys) = P x y × Steps y ys

  abbrev pub Adjacent : List X → Type 0
  Adjacent [] = Unit {0}
  Adjacent (x ∷ xs) = Steps x xs

  rises : ((x y z : X) → P x y → P y z → P x z) → (x : X) (xs : List X) → Steps x xs
      → AllByRecursion (P x) xs × IsAscending P xs
  rises trans x [] steps = (tt, tt)
  rises trans x (y ∷ ys) steps =
      let rest = rises trans y ys steps.1 in
      ((steps.0, all_weaker (P y) (P x) (λ z. trans x y z steps.0) ys rest.0), (rest.0, rest.1))

  pub ascends : ((x y z : X) → P x y → P y z → P x z) → (xs : List X) → Adjacent xs → IsAscending P xs
  ascends trans [] steps = tt
  ascends trans (x ∷ xs) steps = rises trans x xs steps

  pub front_ascends : (xs ys : List X) → IsAscending P (xs ++ ys) → IsAscending P xs
  front_ascends [] ys up = tt
  front_ascends (x ∷ xs) ys up =
      (all_from (P x) xs (λ z h. all_has (P x) (xs ++ ys) z up.0 (has_left xs ys z h)), front_ascends xs ys up.1)

  pub back_ascends : (xs ys : List X) → IsAscending P (xs ++ ys) → IsAscending P ys
  back_ascends [] ys up = up
  back_ascends (x ∷ xs) ys up = back_ascends xs ys up.1

  -- an element of the front with one of the back
  pub across : (xs ys : List X) → IsAscending P (xs ++ ys) → (x y : X) → Has xs x → Has ys y → P x y
  across [] ys up x y here there = absurd here
  across (z ∷ xs) ys up x y (inl same) there =
      subst (λ w. P w y) (sym same) (all_has (P z) (xs ++ ys) y up.0 (has_right xs ys y there))
  across (z ∷ xs) ys up x y (inr later) there = across xs ys up.1 x y later there

  Along : List X → List X → Type 0
  Along xs ys = ((x : X) → AllByRecursion (P x) xs → AllByRecursion (P x) ys) × (IsAscending P xs → IsAscending P ys)

  -- a symmetric relation of each two elements holds in any order
  pub ascends_permuted : ((x y : X) → P x y → P y x) → (xs ys : List X) → IsPermutation xs ys → IsAscending P xs
      → IsAscending P ys
  unfolding Along
  ascends_permuted turned xs ys same =
      let along = along_permutation Along (λ xs. (λ x all. all, λ up. up))
      (λ x xs ys r. (λ z all. (all.0, r.0 z all.1), λ up. (r.0 x up.0, r.1 up.1)))
      (λ x y xs. (λ z all. (all.1.0, (all.0, all.1.1)), λ up. ((turned x y up.0.0, up.1.0), (up.0.1, up.1.1))))
      (λ xs ys zs p q. (λ x all. q.0 x (p.0 x all), λ up. q.1 (p.1 up))) xs ys same in
      along.1

pub adjacent_both : {X : Type 0} (P Q R : X → X → Type 0) → ((x y : X) → P x y → Q x y → R x y) → (xs : List X)
    → Adjacent P xs → Adjacent Q xs → Adjacent R xs
adjacent_both {X} P Q R f [] p q = tt
adjacent_both {X} P Q R f (x ∷ xs) p q = go x xs p q
  where
    go : (x : X) (xs : List X) → Steps P x xs → Steps Q x xs → Steps R x xs
    go x [] p q = tt
    go x (y ∷ ys) p q = (f x y p.0 q.0, go y ys p.1 q.1)

-- neighbours in a list are in a second relation, if elements of the list in the first are also in the second
pub adjacent_among : {X : Type 0} (P R : X → X → Type 0) (xs : List X)
    → ((x y : X) → Has xs x → Has xs y → P x y → R x y) → Adjacent P xs → Adjacent R xs
adjacent_among {X} P R [] f p = tt
adjacent_among {X} P R (x ∷ xs) f p = go x xs f p
  where
    go : (x : X) (xs : List X) → ((y z : X) → Has (x ∷ xs) y → Has (x ∷ xs) z → P y z → R y z) → Steps P x xs
        → Steps R x xs
    go x [] f p = tt
    go x (y ∷ ys) f p = (
      f x y (inl refl) (inr (inl refl)) p.0,
      go y ys (λ a b here there. f a b (inr here) (inr there)) p.1,
    )

pub adjacent_map : {X Y : Type 0} (P : Y → Y → Type 0) (f : X → Y) (xs : List X) → Adjacent (λ a b. P (f a) (f b)) xs
    → Adjacent P (mapped f xs)
adjacent_map {X} P f [] p = tt
adjacent_map {X} P f (x ∷ xs) p = go x xs p
  where
    go : (x : X) (xs : List X) → Steps (λ a b. P (f a) (f b)) x xs → Steps P (f x) (mapped f xs)
    go x [] p = tt
    go x (y ∷ ys) p = (p.0, go y ys p.1)

-- what is sorted has no element below the one before it
pub sorted_adjacent : {X : Type 0} (cmp : X → X → Ordering) (xs : List X) → IsSorted cmp xs
    → Adjacent (λ a b. is_lt (cmp b a) ≡ false) xs
sorted_adjacent {X} cmp xs sorted = from xs (λ k d within. rw add-one at (sorted k d (omega arith) (omega arith)))
  where
    go : (x : X) (xs : List X)
        → ((k : ℕ) (d : X) → suc k < length (x ∷ xs)
        → is_lt (cmp (get_or (x ∷ xs) (suc k) d) (get_or (x ∷ xs) k d)) ≡ false)
        → Steps (λ a b. is_lt (cmp b a) ≡ false) x xs
    go x [] h = tt
    go x (y ∷ ys) h = (h 0 x (omega arith), go y ys (λ k d within. h (suc k) d (omega arith)))

    from : (xs : List X) → ((k : ℕ) (d : X) → suc k < length xs
        → is_lt (cmp (get_or xs (suc k) d) (get_or xs k d)) ≡ false) → Adjacent (λ a b. is_lt (cmp b a) ≡ false) xs
    from [] h = tt
    from (x ∷ xs) h = go x xs h

-- keys that are not below one another and not the same rise
pub apart_below : {K : Type 0} {R : K → K → Ordering} → IsTotalOrder R → map.IsAntisymmetric R → (a b : K)
    → is_lt (R b a) ≡ false → (a ≡ b → ⊥) → R a b ≡ Less
apart_below {K} {R} o exact a b upto apart = go (R a b) refl
  where
    go : (r : Ordering) → R a b ≡ r → R a b ≡ Less
    go Less is = is
    go Equal is = absurd (apart (exact a b is))
    go Greater is = absurd (true≢false (sym (ap is_lt (o.antisymm b a ∙ ap ordering_reverse is)) ∙ upto))

-- a permuted list has the same elements
pub has_permuted : {X : Type 0} (xs ys : List X) (x : X) → IsPermutation xs ys → Has ys x → Has xs x
has_permuted xs ys x same =
    all_has (Has xs) ys x (all-permutation (Has xs) xs ys same (all_from (Has xs) xs (λ e h. h)))

pub filter_permuted : {X : Type 0} (p : X → Bool) (xs ys : List X) → IsPermutation xs ys
    → length (filter p ys) ≡ length (filter p xs)
filter_permuted p xs ys same = length_permutation (filter p xs) (filter p ys) (IsPermutation-filter p xs ys same)

-- one more element adds one to those that pass a test, if it passes, and none otherwise
pub filter_push : {X : Type 0} (p : X → Bool) (xs : List X) (x : X)
    → length (filter p (xs ++ x ∷ [])) ≡ length (filter p xs) + cond (p x) 1 0
filter_push p [] x = go (p x)
  where
    go : (b : Bool) → length (cond b (x ∷ []) []) ≡ 0 + cond b 1 0
    go true = refl
    go false = refl
filter_push {X} p (y ∷ xs) x = go (p y) (filter_push p xs x)
  where
    go : (b : Bool) → length (filter p (xs ++ x ∷ [])) ≡ length (filter p xs) + cond (p x) 1 0
        → length (cond b (y ∷ filter p (xs ++ x ∷ [])) (filter p (xs ++ x ∷ [])))
        ≡ length (cond b (y ∷ filter p xs) (filter p xs)) + cond (p x) 1 0
    go true h = omega (arith, h)
    go false h = h

pub ascending_from_map : {X Y : Type 0} (P : Y → Y → Type 0) (f : X → Y) (xs : List X) → IsAscending P (mapped f xs)
    → IsAscending (λ a b. P (f a) (f b)) xs
ascending_from_map P f [] up = tt
ascending_from_map P f (x ∷ xs) up = (
  all_from _ xs (λ y there. all_has (P (f x)) (mapped f xs) (f y) up.0 (mapped_has f xs y there)),
  ascending_from_map P f xs up.1,
)

-- where no two have one key, those that have are one
pub one_by_key : {X K : Type 0} (key : X → K) (xs : List X) → IsAscending (λ a b. key a ≡ key b → ⊥) xs → (a b : X)
    → Has xs a → Has xs b → key a ≡ key b → a ≡ b
one_by_key key [] once a b here there same = absurd here
one_by_key key (x ∷ xs) once a b (inl one) (inl two) same = one ∙ sym two
one_by_key key (x ∷ xs) once a b (inl one) (inr there) same =
    absurd (all_has (λ y. key x ≡ key y → ⊥) xs b once.0 there (ap key (sym one) ∙ same))
one_by_key key (x ∷ xs) once a b (inr here) (inl two) same =
    absurd (all_has (λ y. key x ≡ key y → ⊥) xs a once.0 here (ap key (sym two) ∙ sym same))
one_by_key key (x ∷ xs) once a b (inr here) (inr there) same = one_by_key key xs once.1 a b here there same
