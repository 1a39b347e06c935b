-- Kept lists of versions, each with the latest version once that was asked for.
use Rattle.std.specs.Prelude.{ℕ, ◌≡◌, ◌&&◌, List, Bool, bytes_eq, IfSome}
use Rattle.world.specs.World.{World}
use Rattle.world.specs.Latest.{latest_of}
use Rattle.world.specs.Versions.{versions_of}
use Rattle.cache.specs.declared.lists.KeptList.{KeptList}
use Rattle.cache.specs.Recent.{Holds}

-- whether a list is that of a shelf and a path
abbrev pub is_of : List ℕ → List ℕ → KeptList → Bool
is_of s p list = bytes_eq list.shelf s && bytes_eq list.path p

-- a list has the versions of its path that its shelf sees, in ascending precedence, and the latest of them if it has
-- one kept
abbrev pub IsListIn : World → KeptList → Type 0
IsListIn w list = (list.versions ≡ versions_of w list.shelf list.path)
    × IfSome list.latest (λ latest. latest ≡ latest_of w list.shelf list.path)

-- `IsListIn` holds of each kept list
abbrev pub AreLists : World → List (ℕ × (ℕ × KeptList)) → Type 0
AreLists w lists = (list : KeptList) → Holds lists list → IsListIn w list
