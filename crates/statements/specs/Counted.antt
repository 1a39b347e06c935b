-- How many versions there are.
use Rattle.std.specs.Prelude.{ℕ, min}
use Rattle.std.specs.FinMap as map
use Rattle.world.specs.World.{World}

-- the most that a count tells
abbrev pub most_counted : ℕ
most_counted = 9223372036854775807

-- how many versions all shelves have, as a count tells it
abbrev pub versions_in : World → ℕ
versions_in w = min (map.len w.entries) most_counted
