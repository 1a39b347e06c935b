-- A finite map in another, and how many keys the two have.
use Rattle.std.proofs.Common.{
  ◌≡◌,
  ◌≤◌,
  ◌+◌,
  ℕ,
  zero,
  suc,
  Bool,
  true,
  false,
  cond,
  List,
  [],
  ◌∷◌,
  length,
  Option,
  Some,
  None,
  is_some,
  inl,
  inr,
  refl,
  sym,
  ap,
  ◌∙◌,
  arith,
}
use Rattle.std.specs.FinMap as map
use Rattle.std.specs.Ordering.{eq_by_cmp, is_eq}
use Rattle.std.specs.declared.cmp.Ordering.{Ordering}
use Rattle.std.specs.Cmp.{IsTotalOrder, tied_itself}
use Rattle.std.proofs.lemmas.Bool.{cases_Bool}
use Rattle.std.proofs.lemmas.Map.Views.{tells_apart}

module _ {K X : Type 0} {R : K → K → Ordering} (o : IsTotalOrder R) (exact : map.IsAntisymmetric R) where
  -- whatever the first map has, the second has
  abbrev pub IsIn : map.FinMap R X → map.FinMap R X → Type 0
  IsIn m n = (q : K) (x : X) → map.get m q ≡ Some x → map.get n q ≡ Some x

  gone : (m : map.FinMap R X) (p : K) → map.get (map.remove m p) p ≡ None
  gone m p = map.get-remove o m p p ∙ ap (λ r. cond (is_eq r) None (map.get m p)) (tied_itself o p)

  put_back : (m : map.FinMap R X) (p : K) (x : X) → map.get m p ≡ Some x → map.insert (map.remove m p) p x ≡ m
  put_back m p x is = map.same_map o exact _ m
      (λ q. map.get-insert o (map.remove m p) p x q ∙ go q (eq_by_cmp R q p) refl)
    where
      go : (q : K) (b : Bool) → eq_by_cmp R q p ≡ b → cond b (Some x) (map.get (map.remove m p) q) ≡ map.get m q
      go q true tied = sym is ∙ ap (map.get m) (sym (tells_apart exact q p tied))
      go q false free = map.get-remove o m p q ∙ ap (λ b. cond b None (map.get m q)) free

  one_fewer : (m : map.FinMap R X) (p : K) (x : X) → map.get m p ≡ Some x → map.len m ≡ map.len (map.remove m p) + 1
  one_fewer m p x is =
      sym (ap map.len (put_back m p x is)) ∙ (map.len-insert o (map.remove m p) p x
      ∙ ap (λ (g : Option X). cond (is_some g) (map.len (map.remove m p)) (map.len (map.remove m p) + 1)) (gone m p))

  -- a map that is not empty has something
  some_of : (m : map.FinMap R X) (k : ℕ) → map.len m ≡ suc k → (q : K) × (x : X) × (map.get m q ≡ Some x)
  some_of m k is = go (map.entries m) refl
    where
      go : (es : List (K × X)) → map.entries m ≡ es → (q : K) × (x : X) × (map.get m q ≡ Some x)
      go [] none = let long = map.len-entries m ∙ ap length none in absurd (omega (arith, is, long))
      go (e ∷ es) some = (
        e.0,
        e.1,
        map.get-entries m e.0
            ∙ (ap (map.find R e.0) some ∙ ap (λ r. cond (is_eq r) (Some e.1) (map.find R e.0 es)) (tied_itself o e.0)),
      )

  -- without the same key, a map is still in another
  narrower : (m n : map.FinMap R X) (p : K) → IsIn m n → IsIn (map.remove m p) (map.remove n p)
  narrower m n p within q x h = elim (cases_Bool (eq_by_cmp R q p)) [
    | inl tied ↦ absurd (let none : ◌≡◌ {A = Option X} (Some x) None = sym h
        ∙ (map.get-remove o m p q ∙ ap (λ b. cond b None (map.get m q)) tied) in cc)
    | inr free ↦ (let there = sym (map.get-remove o m p q ∙ ap (λ b. cond b None (map.get m q)) free) ∙ h in
        map.get-remove o n p q ∙ (ap (λ b. cond b None (map.get n q)) free ∙ within q x there))
  ]

  -- a map in another has no more keys
  pub at_most : (k : ℕ) (m n : map.FinMap R X) → map.len m ≡ k → IsIn m n → k ≤ map.len n
  at_most zero m n is within = omega arith
  at_most (suc k) m n is within =
      let it = some_of m k is in
      let less = one_fewer m it.0 it.1 it.2 in
      let more = one_fewer n it.0 it.1 (within it.0 it.1 it.2) in
      let rest = at_most k (map.remove m it.0) (map.remove n it.0) (omega (arith, is, less))
      (narrower m n it.0 within) in
      omega (arith, more, rest)

  -- if a map in another has as many keys, it is the other
  pub same_of : (m n : map.FinMap R X) → map.len n ≡ map.len m → IsIn m n → m ≡ n
  same_of m n long within = map.same_map o exact m n (λ q. go q (map.get m q) (map.get n q) refl refl)
    where
      besides : (q : K) → map.get m q ≡ None → IsIn m (map.remove n q)
      besides q lacks r x h = elim (cases_Bool (eq_by_cmp R r q)) [
        | inl tied ↦ absurd (let none : ◌≡◌ {A = Option X} (Some x) None = sym h
            ∙ (ap (map.get m) (tells_apart exact r q tied) ∙ lacks) in cc)
        | inr free ↦ map.get-remove o n q r ∙ (ap (λ b. cond b None (map.get n r)) free ∙ within r x h)
      ]

      go : (q : K) (a b : Option X) → map.get m q ≡ a → map.get n q ≡ b → a ≡ b
      go q (Some x) b is at = sym (within q x is) ∙ at
      go q None None is at = refl
      go q None (Some y) is at =
          let more = one_fewer n q y at in
          let few = at_most (map.len m) m (map.remove n q) refl (besides q is) in
          absurd (omega (arith, long, more, few))
