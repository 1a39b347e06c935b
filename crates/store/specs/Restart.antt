-- What the files of a store hold when they are opened, and what a crash leaves in them.
use Rattle.sqlite_disk.specs.declared.Disk.{Ghosts}
use Rattle.sqlite_wal.specs.Recovery.{Image}
use Rattle.sqlite_wal.specs.Files.{outcomes}
use Rattle.sqlite_pool.specs.Stored.{StandsAs}
use Rattle.sqlite_store.specs.Unopened.{state_of}
use Rattle.sqlite_store.specs.FileStore.{recovers}
use Rattle.sqlite.specs.declared.file.Leftover.{Leftover}
use Rattle.sqlite.specs.declared.file.Leftover.TheVariants as left
use Rattle.sqlite_catalog.specs.Listing.{IsSound}
use Rattle.sqlite.specs.Files.{HoldsDatabase, AreFoundIn, IsBlankAs, IsNothing, IsEmpty}
use Rattle.sqlite.specs.Tree.{Trees}
use Rattle.sqlite.specs.State.{State}
use Rattle.std.specs.Prelude.{ℕ, ◌≡◌, ◌≢◌, ◌⊎◌, false, List, length, slice_index, IsTrue}
use Rattle.world.specs.World.{World, IsWorld, only_common}
use Rattle.tables.specs.Schema.{no_schema}
use Rattle.tables.specs.Means.{StandFor}
use Rattle.store.specs.Shown.{shown_of}

-- the files hold a database that stands for the world
abbrev pub HoldsWorld : Image → World → Type 0
HoldsWorld image w = (db : Trees) × HoldsDatabase image db × StandFor db w

-- one byte, and not the 0 that the making of a database begins with
abbrev pub IsOddByte : List ℕ → Type 0
IsOddByte file = (length file ≡ 1) × (slice_index file 0 ≢ 0)

-- sqlite takes the files for ones with no database yet, for this one byte
abbrev pub IsStray : Image → Type 0
IsStray image = IsOddByte image.db × IsBlankAs false image

-- the files have no database yet, or one with no tables
abbrev pub IsBlank : Image → Type 0
IsBlank image = (IsNothing image × ¬ IsStray image) ⊎ ((db : Trees) × HoldsDatabase image db × IsSound no_schema db)

-- a store over the files begins at the world: their database stands for it, or they are blank and it has `common` alone
abbrev pub HoldsStore : Image → World → Type 0
HoldsStore image w = HoldsWorld image w ⊎ (IsBlank image × (w ≡ only_common))

-- what the files recover to are tables that stand for the world; or there are no tables, and it has `common` alone
abbrev pub RecoversStore : Image → World → Type 0
RecoversStore image w =
    (db : Trees) × AreFoundIn image db × (StandFor db w ⊎ (IsSound no_schema db × (w ≡ only_common)))

-- no store begins over the files
abbrev pub HoldsNoStore : Image → Type 0
HoldsNoStore image = (w : World) → IsWorld w → HoldsStore image w → ⊥

-- the files hold no database, and are not files that have none yet, as sqlite says
abbrev pub HoldsNoFile : Image → Type 0
HoldsNoFile image = ¬ (((db : Trees) × HoldsDatabase image db) ⊎ IsNothing image)

-- the same, where a stray byte is no such file
abbrev pub HoldsNoDatabase : Image → Type 0
HoldsNoDatabase image = ¬ (((db : Trees) × HoldsDatabase image db) ⊎ (IsNothing image × ¬ IsStray image))

-- the files hold a database that a crash at this moment may leave
abbrev pub IsLeft : State → Image → Type 0
IsLeft s image = (db : Trees) × s.may_leave db × HoldsDatabase image db

-- if a crash leaves only one world, files that it leaves hold that world
abbrev pub IsThereAfterRestart : State → Type 0
IsThereAfterRestart s = (w : World) (image : Image) → (shown_of s).leaves w w → IsLeft s image → HoldsWorld image w

-- ---- what an opening that fails leaves

-- a crash leaves what was committed or, if there were no tables, tables that stand for `common` alone
abbrev pub LeavesCommitted : State → State → Type 0
LeavesCommitted old new =
    IsTrue old.is_open → (db : Trees) → new.may_leave db
    → (db ≡ old.committed.trees) ⊎ ((old.now.schema ≡ no_schema) × StandFor db only_common)

-- These trees are the database that the files held, or only the tables of a new store were added, in files that had no
-- tables.
pub record KeepsTrees (image : Image) (db : Trees) : Type 0 where
  pub database : (was : Trees) → HoldsDatabase image was
      → (db ≡ was) ⊎ (IsSound no_schema was × StandFor db only_common)
  pub nothing : IsNothing image → IsEmpty db ⊎ StandFor db only_common

-- These files are as they were, or have the same pages; or there was no database yet, and there is none or an empty
-- one.
abbrev pub KeepsImage : Image → ℕ → Image → Type 0
KeepsImage image size now =
    (now ≡ image) ⊎ ((IsNothing image × (IsNothing now ⊎ ∥ ((db : Trees) × HoldsDatabase now db × IsEmpty db) ∥₁))
    ⊎ ((¬ IsNothing image) × StandsAs size image now))

-- whatever a crash leaves of what came back, it is what the files held when they were opened
module _ {D : Type 0} {g : Ghosts D} where
  abbrev pub Keeps : Image → Leftover D g → Type 0
  Keeps image (left.Files now) = (it : Image) → outcomes g now.log now.db it → it ≡ image
  Keeps image (left.Unopened now) = (it : Image) → (state_of now).may_leave it
      → KeepsImage image (state_of now).page_size it
  Keeps image (left.Store now) = (db : Trees) → recovers now db → KeepsTrees image db
