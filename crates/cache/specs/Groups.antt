-- Kept groups of shelves.
use Rattle.std.specs.Prelude.{ℕ, ◌≡◌, List, true, Option, Some}
use Rattle.std.specs.FinMap as map
use Rattle.world.specs.World.{World, text_cmp, group_of}

-- the group of each kept shelf, or None if it has none
abbrev pub Grouping : Type 0
Grouping = map.FinMap text_cmp (Option (List ℕ))

-- the shelf exists, and has this group, or none
abbrev pub IsGroupOf : World → List ℕ → Option (List ℕ) → Type 0
IsGroupOf w s group = (map.contains_key w.shelves s ≡ true) × (group_of w s ≡ group)

-- each kept shelf exists, and has its kept group
abbrev pub AreGroups : World → Grouping → Type 0
AreGroups w groups = (s : List ℕ) (group : Option (List ℕ)) → map.get groups s ≡ Some group → IsGroupOf w s group
