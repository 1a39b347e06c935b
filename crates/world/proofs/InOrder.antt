-- The members of a set in its order.
use Rattle.std.proofs.Common.{◌≡◌, List, [], ◌∷◌, Bool, true, false, refl, ◌∙◌, sym, ap, subst, Option, Some, None}
use Rattle.std.proofs.Common.{length, arith, true≢false}
use Rattle.std.specs.Prelude.{map as each, is_some, ◌&&◌, ◌||◌}
use Rattle.std.specs.BTreeSet.{insert_key}
use Rattle.std.specs.Cmp.{IsTotalOrder, alike_right, tied_itself}
use Rattle.std.specs.FinMap as map
use Rattle.std.specs.FinMap.Entries.{below_all, is_some-find}
use Rattle.std.specs.FinSet as set
use Rattle.std.specs.List.{list_any, AllByRecursion}
use Rattle.std.specs.List.Sorted.{IsStrictlySortedBy}
use Rattle.std.specs.Ordering.{eq_by_cmp, is_eq, is_lt, match_ordering}
use Rattle.std.specs.declared.cmp.Ordering.{Ordering}
use Rattle.std.specs.declared.cmp.Ordering.TheVariants.{Less, Equal, Greater}
use lib.Dec.{T}
use Rattle.world.specs.Lines.{bare, in_order}

keys_bare : {K : Type 0} (ks : List K) → each (λ e. e.0) (bare ks) ≡ ks
keys_bare [] = refl
keys_bare (k ∷ ks) = ap (λ rest. k ∷ rest) (keys_bare ks)

same_marks : (x y : Option (Unit {0})) → is_some x ≡ is_some y → x ≡ y
same_marks None None e = refl
same_marks None (Some u) e = cc e
same_marks (Some u) None e = cc e
same_marks (Some u) (Some v) e = refl

twice : (a b : Bool) → (a || b) ≡ (a || (a || b))
twice true b = refl
twice false b = refl

pub turned : (a b c : Bool) → (a || (b || c)) ≡ (b || (a || c))
turned true true c = refl
turned true false c = refl
turned false b c = refl

module _ {K : Type 0} {R : K → K → Ordering} (o : IsTotalOrder R) where
  found : (q : K) (ks : List K) → is_some (map.find R q (bare ks)) ≡ list_any (eq_by_cmp R q) ks
  found q ks = is_some-find R q (bare ks) ∙ ap (list_any (eq_by_cmp R q)) (keys_bare ks)

  -- a set in its order has exactly its members
  pub in_order-members : (s : set.FinSet R) (q : K) → list_any (eq_by_cmp R q) (in_order s) ≡ set.contains s q
  unfolding in_order
  in_order-members s q =
      sym (map.contains_key-keys (map.from_entries {R = R} (bare (set.items s))) q)
      ∙ ap is_some (map.get-from_entries o (bare (set.items s)) q) ∙ found q (set.items s)
      ∙ sym (set.contains-items s q)

  -- a set made from rising keys has these keys in its order
  pub in_order-from_list : map.IsAntisymmetric R → (ks : List K) → T (map.is_sorted R (bare ks))
      → in_order (set.from_list {R = R} ks) ≡ ks
  unfolding in_order
  in_order-from_list exact ks rise =
      let items = set.items (set.from_list {R = R} ks) in
      ap map.keys (map.same_map o exact (map.from_entries {R = R} (bare items)) (map.from_sorted (bare ks)) (λ q.
      map.get-from_entries o (bare items) q
      ∙ same_marks _ _ (found q items ∙ sym (set.contains-items (set.from_list ks) q) ∙ set.contains-from_list o ks q
      ∙ sym (found q ks))
      ∙ sym (map.get-from_sorted R (bare ks) q rise)))
      ∙ ap (each (λ e. e.0)) (map.entries-from_sorted R (bare ks) rise) ∙ keys_bare ks

  -- ---- sets of lists

  -- a set of no keys
  pub no_keys : (ks : List K) → set.from_list {R = R} ks ≡ set.empty → length ks ≡ 0
  no_keys [] e = refl
  no_keys (k ∷ ks) e =
      let there : set.contains (set.from_list {R = R} (k ∷ ks)) k ≡ true =
      set.contains-insert o (set.from_list ks) k k
      ∙ ap (λ r. is_eq r || set.contains (set.from_list {R = R} ks) k) (tied_itself o k) in
      absurd (true≢false (sym there ∙ ap (λ s. set.contains s k) e ∙ set.contains-empty R k))

  pub nothing_there : (ks : List K) → length ks ≡ 0 → set.from_list {R = R} ks ≡ set.empty
  nothing_there [] e = refl
  nothing_there (k ∷ ks) e = absurd (omega arith)

  among_more : (ks : List K) (k q : K)
      → list_any (eq_by_cmp R q) (insert_key R ks k) ≡ (eq_by_cmp R q k || list_any (eq_by_cmp R q) ks)
  among_more [] k q = refl
  among_more (x ∷ xs) k q =
      elim (R k x)
      as (λ r. R k x ≡ r → list_any (eq_by_cmp R q) (match_ordering r (k ∷ x ∷ xs) (x ∷ xs) (x ∷ insert_key R xs k))
      ≡ (eq_by_cmp R q k || (eq_by_cmp R q x || list_any (eq_by_cmp R q) xs))) [
        | Less ↦ λ _. refl
        | Equal ↦ λ tie. twice (eq_by_cmp R q x) _
            ∙ ap (λ r. is_eq r || (eq_by_cmp R q x || list_any (eq_by_cmp R q) xs)) (sym (alike_right o k x q tie))
        | Greater ↦ λ _. ap (λ b. eq_by_cmp R q x || b) (among_more xs k q)
            ∙ turned (eq_by_cmp R q x) (eq_by_cmp R q k) _
      ] refl

  -- one more key
  pub one_more_key : map.IsAntisymmetric R → (ks : List K) (k : K)
      → set.from_list {R = R} (insert_key R ks k) ≡ set.insert (set.from_list ks) k
  one_more_key exact ks k = set.same_set o exact _ _ (λ q.
      set.contains-from_list o (insert_key R ks k) q ∙ among_more ks k q
      ∙ ap (λ b. eq_by_cmp R q k || b) (sym (set.contains-from_list o ks q))
      ∙ sym (set.contains-insert o (set.from_list ks) k q))

pub less_is : (r : Ordering) → r ≡ Less → T (is_lt r)
less_is Less e = tt
less_is Equal e = cc e
less_is Greater e = cc e

pub same_bool : (a b : Bool) → (a ≡ true → b ≡ true) → (b ≡ true → a ≡ true) → a ≡ b
same_bool true b f g = sym (f refl)
same_bool false true f g = g refl
same_bool false false f g = refl

pub both : (a b : Bool) → T a → T b → T (a && b)
both true b p q = q
both false b p q = p

pub first : (a b : Bool) → T (a && b) → T a
first true b h = tt
first false b h = absurd h

pub second : (a b : Bool) → T (a && b) → T b
second true b h = h
second false b h = absurd h

module _ {K X : Type 0} (R : K → K → Ordering) where
  below_keys : (k : K) (es : List (K × X)) → T (below_all R k es) → T (below_all R k (bare (each (λ e. e.0) es)))
  below_keys k [] below = tt
  below_keys k (e ∷ es) below = both _ _ (first _ _ below) (below_keys k es (second _ _ below))

  -- the keys of entries that rise
  keys_rise : (es : List (K × X)) → T (map.is_sorted R es) → T (map.is_sorted R (bare (each (λ e. e.0) es)))
  keys_rise [] up = tt
  keys_rise (e ∷ es) up = both _ _ (below_keys e.0 es (first _ _ up)) (keys_rise es (second _ _ up))

module _ {K : Type 0} {R : K → K → Ordering} (o : IsTotalOrder R) (exact : map.IsAntisymmetric R) (s : set.FinSet R)
  where
    -- a set that has the keys of a map has them in the order of the map
    pub in_order-keys : {X : Type 0} (m : map.FinMap R X) → ((q : K) → set.contains s q ≡ is_some (map.get m q))
        → in_order s ≡ map.keys m
    in_order-keys m same =
        ap in_order (set.same_set o exact s (set.from_list (map.keys m))
        (λ q. same q ∙ map.contains_key-keys m q ∙ sym (set.contains-from_list o (map.keys m) q)))
        ∙ in_order-from_list o exact (map.keys m) (keys_rise R (map.entries m) (map.entries_sorted m))

    -- a set that has nothing is the empty list in its order
    pub in_order-nothing : ((q : K) → set.contains s q ≡ false) → in_order s ≡ []
    in_order-nothing none = ap in_order
        (set.same_set o exact s (set.from_list []) (λ q. none q ∙ sym (set.contains-from_list o [] q)))
        ∙ in_order-from_list o exact [] tt

module _ {Y K : Type 0} (R : K → K → Ordering) (f : Y → K) where
  above_all : (x : Y) (ys : List Y) → AllByRecursion (λ y. R (f x) (f y) ≡ Less) ys
      → T (below_all R (f x) (bare (each f ys)))
  above_all x [] above = tt
  above_all x (y ∷ ys) above = both _ _ (less_is (R (f x) (f y)) above.0) (above_all x ys above.1)

  -- keys that rise, as entries
  pub rising : (ys : List Y) → IsStrictlySortedBy (λ x y. R (f x) (f y)) ys → T (map.is_sorted R (bare (each f ys)))
  unfolding IsStrictlySortedBy
  rising [] up = tt
  rising (y ∷ ys) up = both _ _ (above_all y ys up.0) (rising ys up.1)

each_itself : {K : Type 0} (ks : List K) → each (λ k. k) ks ≡ ks
each_itself [] = refl
each_itself (k ∷ ks) = ap (λ rest. k ∷ rest) (each_itself ks)

pub risen : {K : Type 0} (R : K → K → Ordering) (ks : List K) → IsStrictlySortedBy R ks → T (map.is_sorted R (bare ks))
risen {K = K} R ks up = subst (λ (xs : List K). T (map.is_sorted R (bare xs))) (each_itself ks)
    (rising R (λ k. k) ks up)
