-- Kept zips.
use Rattle.std.specs.Prelude.{ℕ, ◌≡◌, ◌&&◌, List, Bool, Option, Some, None, bytes_eq}
use Rattle.std.specs.FinMap as map
use Rattle.world.specs.declared.entry.Entry.{Entry}
use Rattle.world.specs.declared.entry.Place.{Place}
use Rattle.world.specs.declared.entry.Seen.{Seen}
use Rattle.world.specs.World.{World, place}
use Rattle.cache.specs.declared.zips.KeptZip.{KeptZip}
use Rattle.cache.specs.Recent.{Holds}

-- whether a zip is that of the entry at a place
abbrev pub is_at : Place → KeptZip → Bool
is_at q it = bytes_eq it.place.shelf q.shelf && bytes_eq it.place.path q.path && bytes_eq it.place.version q.version

-- there is an entry at the place, with this zip
abbrev pub IsZipAt : World → Place → List ℕ → Type 0
IsZipAt w q zip = (e : Entry) × (map.get w.entries q ≡ Some e) × (e.zip ≡ zip)

-- each kept zip is that of the entry at its place
abbrev pub AreZips : World → List (ℕ × (ℕ × KeptZip)) → Type 0
AreZips w zips = (it : KeptZip) → Holds zips it → IsZipAt w it.place it.zip

-- what is seen of a version, if anything, is the entry that its shelf has there
abbrev pub IsSeenAt : World → List ℕ → List ℕ → Option Seen → Type 0
IsSeenAt w p v None = Unit {0}
IsSeenAt w p v (Some seen) = map.get w.entries (place seen.shelf p v) ≡ Some seen.entry
