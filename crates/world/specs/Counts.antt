-- Counts of versions that a store keeps.
use Rattle.std.specs.Prelude.{ℕ, List, ◌≡◌, Some}
use Rattle.std.specs.FinMap as map
use Rattle.world.specs.World.{World, text_cmp, count}
use Rattle.world.specs.FinMaps.{get_under}

-- a number for each shelf and path that has one
abbrev pub Tally : Type 0
Tally = map.FinMap text_cmp (map.FinMap text_cmp ℕ)

-- each number counts the versions of its path that stand on its shelf
abbrev pub AreCounts : World → Tally → Type 0
AreCounts w tally = (s p : List ℕ) (n : ℕ) → get_under tally s p ≡ Some n → n ≡ count w s p
