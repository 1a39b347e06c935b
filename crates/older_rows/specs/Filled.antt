-- What the rows of an older store make of a fresh one.
use Rattle.std.specs.Prelude.{◌≡◌, ◌≤◌, ◌⊎◌, Bool, false}
use Rattle.sqlite.specs.Tree.{Trees}
use Rattle.sqlite.specs.Effect.{Database}
use Rattle.sqlite.specs.State.{State, HasCleanDisk}
use Rattle.sqlite_trees.specs.View.{doubt}
use Rattle.sqlite_catalog.specs.Listing.{IsSound}
use Rattle.tables.specs.Means.{StandFor, Stands}
use Rattle.tables.specs.Schema.{store_schema}
use Rattle.world.specs.World.{World, IsWorld, only_common}
use Rattle.older.specs.declared.schema.Format.{Format}
use Rattle.older.specs.Means.{Means, StandsAs}
use Rattle.statements.specs.Calls.{ChangesAt, IsOpenIfHonest}
use Rattle.statements.specs.Extract.{IsReadBy}
use Rattle.older_rows.specs.Visits.{IsReadyAs}

-- the old tables mean a world, and the fresh ones stand for it
pub record HasWorld (format : Format) (old after : Trees) : Type 0 where
  pub world : World
  pub is : IsWorld world
  pub means : Means format old world
  pub stands : StandFor after world

-- tables that stood for `common` alone come to stand for what the old ones mean
abbrev pub Fills : Format → Trees → Trees → Trees → Type 0
Fills format old db after = StandFor db only_common → IsSound store_schema after → HasWorld format old after

-- ---- the call `write_world`

-- the world is the one that the old tables stand for, or `common` alone if the call is not done
abbrev pub IsOfTables : Format → Database → Bool → World → Type 0
IsOfTables format db done w = StandsAs format db w ⊎ ((done ≡ false) × (w ≡ only_common))

-- The older store is only read. The fresh store, which stood for `common` alone, stands for the world of the old tables
-- if the call is done, and for `common` alone otherwise. A crash leaves one of the two, and that world alone once the
-- call is done.
pub record Migrates (format : Format) (old old_new fresh fresh_new : State) (done : Bool) : Type 0 where
  pub clean : doubt old.is_clean ≤ doubt old_new.is_clean
  pub reads : IsReadyAs format old → IsReadBy old old_new done
  pub clean_too : doubt fresh.is_clean ≤ doubt fresh_new.is_clean
  pub at :
      HasCleanDisk old_new → HasCleanDisk fresh_new → IsReadyAs format old → IsOpenIfHonest fresh
      → Stands fresh only_common
      → (w : World) × IsOfTables format old.now done w × ChangesAt fresh fresh_new done only_common w
