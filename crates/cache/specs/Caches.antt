-- What a store keeps from call to call.
use Rattle.std.specs.Prelude.{◌≡◌, ◌≤◌, [], None}
use Rattle.std.specs.FinMap as map
use Rattle.world.specs.World.{World}
use Rattle.world.specs.Counts.{AreCounts}
use Rattle.cache.specs.Absences.{AreAbsent, HasPairs}
use Rattle.cache.specs.Counts.{HasAtMost}
use Rattle.cache.specs.Groups.{AreGroups}
use Rattle.cache.specs.Headings.{AreHeadings}
use Rattle.cache.specs.Keys.{AreKeys}
use Rattle.cache.specs.Lists.{AreLists}
use Rattle.cache.specs.Recent.{weighed_in}
use Rattle.cache.specs.Total.{IsTotal}
use Rattle.cache.specs.Weights.{list_weight, most_lists, zip_weight, most_zips, heading_weight, most_headings}
use Rattle.cache.specs.Weights.{key_weight, most_keys}
use Rattle.cache.specs.Weights.{most_groups, most_counts, most_absences}
use Rattle.cache.specs.Zips.{AreZips}
use Rattle.cache.specs.declared.caches.Caches.{Caches}

-- what is kept of single versions and keys is true in the world
abbrev pub AreFound : World → Caches → Type 0
AreFound w kept = AreZips w kept.zips × AreHeadings w kept.headings × AreKeys w kept.keys

-- what is kept of numbers of versions is true in the world
abbrev pub AreCounted : World → Caches → Type 0
AreCounted w kept = AreCounts w kept.counts × IsTotal w kept.total

-- what is kept of shelves is true in the world: the groups that they have, and the paths at which they see no version
abbrev pub AreOfShelves : World → Caches → Type 0
AreOfShelves w kept = AreGroups w kept.groups × AreAbsent w kept.absences

-- all that is kept is true in the world
abbrev pub AreKept : World → Caches → Type 0
AreKept w kept = AreCounted w kept × AreLists w kept.lists × AreOfShelves w kept × AreFound w kept

-- nothing is kept
abbrev pub IsNothing : Caches → Type 0
IsNothing kept =
    (kept.counts ≡ map.empty) × (kept.lists ≡ []) × (kept.groups ≡ map.empty) × (kept.zips ≡ []) × (kept.headings ≡ [])
    × (kept.keys ≡ [])
    × (kept.total ≡ None) × (kept.absences ≡ map.empty)

-- all that is kept weighs at most the figures of its kinds
pub record WeighsAtMost (kept : Caches) : Type 0 where
  pub lists : weighed_in list_weight kept.lists ≤ most_lists
  pub zips : weighed_in zip_weight kept.zips ≤ most_zips
  pub headings : weighed_in heading_weight kept.headings ≤ most_headings
  pub keys : weighed_in key_weight kept.keys ≤ most_keys
  pub groups : map.len kept.groups ≤ most_groups
  pub counts : HasAtMost kept.counts most_counts
  pub absences : HasPairs kept.absences most_absences
