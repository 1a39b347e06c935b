-- What files of an older store hold, and what opening them finds.
use Rattle.sqlite.specs.Effect.{Database}
use Rattle.sqlite.specs.Files.{HoldsDatabase}
use Rattle.sqlite.specs.State.{State, HasCleanDisk}
use Rattle.sqlite_catalog.specs.Listing.{IsSound}
use Rattle.sqlite_wal.specs.Recovery.{Image}
use Rattle.world.specs.World.{World}
use Rattle.store.specs.Migrated.{WasOf}

-- the files hold a database whose tables are those of an older schema, and stand for the world
pub record HoldsOlder (image : Image) (w : World) : Type 0 where
  pub db : Database
  pub holds : HoldsDatabase image db.trees
  pub sound : IsSound db.schema db.trees
  pub was : WasOf db w

-- the tables of the connection stand for each older world that the files hold, if the disk has returned what was
-- written
abbrev pub FindsOlder : Image → State → Type 0
FindsOlder image s = HasCleanDisk s → (w : World) → HoldsOlder image w → WasOf s.now w
