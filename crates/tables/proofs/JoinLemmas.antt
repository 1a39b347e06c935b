-- What is in a list of lists, joined.
use Rattle.std.proofs.Common.{List, [], ◌∷◌, flat_map, inl, inr, refl, subst}
use Rattle.sqlite_rules.specs.Lists.{Has}
use Rattle.sqlite_rules.proofs.ListLemmas.{has_left, has_right, has_either}

pub has_flat : {X Y : Type 0} (f : X → List Y) (xs : List X) (x : X) (y : Y) → Has xs x → Has (f x) y
    → Has (flat_map f xs) y
has_flat f [] x y here there = absurd here
has_flat {X} {Y} f (z ∷ xs) x y (inl same) there =
    has_left (f z) (flat_map f xs) y (subst (λ w. Has (f w) y) same there)
has_flat f (z ∷ xs) x y (inr later) there = has_right (f z) (flat_map f xs) y (has_flat f xs x y later there)

pub flat_has : {X Y : Type 0} (f : X → List Y) (xs : List X) (y : Y) → Has (flat_map f xs) y
    → (x : X) × Has xs x × Has (f x) y
flat_has f [] y there = absurd there
flat_has f (z ∷ xs) y there = elim (has_either (f z) (flat_map f xs) y there) [
  | inl here ↦ (z, inl refl, here)
  | inr later ↦ (let it = flat_has f xs y later in (it.0, inr it.1, it.2))
]
