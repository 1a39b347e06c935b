-- Which shelves there are, and which of them a shelf sees.
use Rattle.std.specs.Prelude.{ℕ, ◌≡◌, ◌⊎◌, ◌↔◌, List, [], ◌∷◌, true, false, Some}
use Rattle.std.specs.FinMap as map
use Rattle.world.specs.Part.{IsTeam}
use Rattle.world.specs.Registry.{is_group}
use Rattle.world.specs.World.{World, IsWorld, common, chain, sees}

-- Each shelf of a world is common, a group or a team.
abbrev pub EachHasAKind : Type 0
EachHasAKind = (w : World) (s : List ℕ) → IsWorld w → map.contains_key w.shelves s ≡ true
    → (s ≡ common) ⊎ ((is_group w s ≡ true) ⊎ IsTeam w s)

-- the first shelf is a member of the second, which is a group
abbrev pub IsMember : World → List ℕ → List ℕ → Type 0
IsMember w s g = (map.get w.shelves s ≡ Some (Some g)) × (is_group w g ≡ true)

-- A shelf sees itself, common, the group that it is a member of, and no other.
abbrev pub SeesItsGroup : Type 0
SeesItsGroup = (w : World) (s t : List ℕ) → IsWorld w
    → (sees w s t ≡ true) ↔ ((t ≡ s) ⊎ ((t ≡ common) ⊎ IsMember w s t))

-- the world has no group
abbrev pub HasNoGroup : World → Type 0
HasNoGroup w = (g : List ℕ) → is_group w g ≡ false

-- In a world without groups, a shelf sees itself and common, in this order.
abbrev pub SeesItselfAndCommon : Type 0
SeesItselfAndCommon = (w : World) (s : List ℕ) → IsWorld w → HasNoGroup w → chain w s ≡ s ∷ common ∷ []
