-- The texts of the paths and versions in a world can be read, and mean themselves.
use Rattle.std.specs.Prelude.{ℕ, ◌≡◌, List, Some}
use Rattle.std.specs.FinMap as map
use Rattle.modver.specs.Reading.{version_of}
use Rattle.modver.specs.SemanticVersion.{SemanticVersion, version_text}
use Rattle.world.specs.declared.entry.Place.{Place}
use Rattle.world.specs.declared.entry.Entry.{Entry}
use Rattle.world.specs.Forms.{path_of}
use Rattle.world.specs.Visible.{IsSeen}
use Rattle.world.specs.World.{World, IsWorld}

-- the first text reads as the path that it is, and the second as a version whose text it is
pub record PlaceReads (path version : List ℕ) : Type 0 where
  pub as_path : path_of path ≡ Some path
  pub named : SemanticVersion
  pub as_version : version_of version ≡ Some named
  pub text : version_text named ≡ version

-- In a world the path and the version of each entry can be read.
abbrev pub PlacesRead : Type 0
PlacesRead = (w : World) (q : Place) (e : Entry) → IsWorld w → map.get w.entries q ≡ Some e
    → PlaceReads q.path q.version

-- In a world the path and the version of each entry that a shelf sees can be read.
abbrev pub SeenPlacesRead : Type 0
SeenPlacesRead = (w : World) (s p v : List ℕ) → IsWorld w → IsSeen w s p v → PlaceReads p v
