-- Kept paths at which shelves see no version.
use Rattle.std.specs.Prelude.{ℕ, ◌≡◌, ◌≤◌, List, [], length, Contains, unwrap_or, IsTrue}
use Rattle.std.specs.FinMap as map
use Rattle.std.specs.FinSet as set
use Rattle.world.specs.World.{World, text_cmp}
use Rattle.world.specs.Versions.{versions_of}

-- for each kept path, the shelves that see no version of it
abbrev pub Lacking : Type 0
Lacking = map.FinMap text_cmp (set.FinSet text_cmp)

-- the shelves that are kept with a path
abbrev pub shelves_at : Lacking → List ℕ → set.FinSet text_cmp
shelves_at lacking p = unwrap_or (map.get lacking p) set.empty

-- each of these shelves sees no version of its path
abbrev pub AreAbsent : World → Lacking → Type 0
AreAbsent w lacking = (p s : List ℕ) → IsTrue (set.contains (shelves_at lacking p) s) → versions_of w s p ≡ []

-- there are at most so many pairs of a path and a shelf
abbrev pub HasPairs : Lacking → ℕ → Type 0
HasPairs lacking number = (pairs : List (List ℕ × List ℕ)) × (length pairs ≤ number)
    × ((p s : List ℕ) → IsTrue (set.contains (shelves_at lacking p) s) → Contains pairs (p, s))
