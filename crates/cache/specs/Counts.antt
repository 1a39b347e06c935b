-- How many counts of versions are kept.
use Rattle.std.specs.Prelude.{ℕ, ◌≡◌, ◌≤◌, List, length, Contains, Some}
use Rattle.world.specs.Counts.{Tally}
use Rattle.world.specs.FinMaps.{get_under}

-- at most so many pairs of a shelf and a path have a count
abbrev pub HasAtMost : Tally → ℕ → Type 0
HasAtMost tally number = (pairs : List (List ℕ × List ℕ)) × (length pairs ≤ number)
    × ((s p : List ℕ) (n : ℕ) → get_under tally s p ≡ Some n → Contains pairs (s, p))
