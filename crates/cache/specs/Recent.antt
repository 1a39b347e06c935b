-- Kept values, each under a hash and with its weight.
use Rattle.std.specs.Prelude.{ℕ, ◌≡◌, ◌≤◌, ◌+◌, List, [], ◌∷◌, Contains}

module _ {V : Type 0} where
  -- the value is among those that are kept
  abbrev pub Holds : List (ℕ × (ℕ × V)) → V → Type 0
  Holds held v = (e : ℕ × (ℕ × V)) × Contains held e × (e.1.1 ≡ v)

  -- what the noted weights are together
  abbrev pub weight_in : List (ℕ × (ℕ × V)) → ℕ
  weight_in [] = 0
  weight_in (e ∷ held) = e.1.0 + weight_in held

  module _ (weighs : V → ℕ) where
    -- what the values weigh together
    abbrev pub weighed_in : List (ℕ × (ℕ × V)) → ℕ
    weighed_in [] = 0
    weighed_in (e ∷ held) = weighs e.1.1 + weighed_in held

    -- with each value its weight is noted, or more
    abbrev pub AreNoted : List (ℕ × (ℕ × V)) → Type 0
    AreNoted held = (e : ℕ × (ℕ × V)) → Contains held e → weighs e.1.1 ≤ e.1.0

    -- the noted weights are together at most this one, which is at most the most
    abbrev pub Fits : ℕ → List (ℕ × (ℕ × V)) → ℕ → Type 0
    Fits most held weight = (weight_in held ≤ weight) × (weight ≤ most) × AreNoted held
