-- Kept keys.
use Rattle.std.specs.Prelude.{ℕ, ◌≡◌, List, Some}
use Rattle.std.specs.FinMap as map
use Rattle.world.specs.World.{World}
use Rattle.cache.specs.declared.keys.KeptKey.{KeptKey}
use Rattle.cache.specs.Recent.{Holds}

-- each kept key exists, and holds what is kept with it
abbrev pub AreKeys : World → List (ℕ × (ℕ × KeptKey)) → Type 0
AreKeys w keys = (it : KeptKey) → Holds keys it → map.get w.keys it.key ≡ Some it.holder
