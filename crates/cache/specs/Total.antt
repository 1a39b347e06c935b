-- How many versions all shelves have.
use Rattle.std.specs.Prelude.{ℕ, ◌≡◌, Option, Some}
use Rattle.std.specs.FinMap as map
use Rattle.world.specs.World.{World}

-- a kept number is that of all versions
abbrev pub IsTotal : World → Option ℕ → Type 0
IsTotal w total = (n : ℕ) → total ≡ Some n → n ≡ map.len w.entries
