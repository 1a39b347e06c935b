-- What migrating a store of an older schema into a fresh store does.
use Rattle.std.specs.Prelude.{◌≡◌, ◌≢◌, ◌≤◌, ◌+◌, ◌⊎◌, ℕ, Bool, false, Result, Ok, Err, OnOk, OnErr, is_ok, IsTrue}
use Rattle.sqlite.specs.Effect.{Database}
use Rattle.sqlite.specs.State.{State, HasCleanDisk}
use Rattle.sqlite_trees.specs.View.{doubt}
use Rattle.tables.specs.Means.{IsSettled}
use Rattle.older.specs.declared.schema.Format.{Format}
use Rattle.older.specs.Means.{StandsAs}
use Rattle.older.specs.Schemas.{schema_of}
use Rattle.tables.specs.Causes.{IsHindered}
use Rattle.older_rows.specs.Causes.{IsVastAs}
use Rattle.statements.specs.Calls.{IsOpenIfHonest}
use Rattle.statements.specs.Extract.{IsReadBy}
use Rattle.world.specs.Store.{Shown, GrewOrFull}
use Rattle.world.specs.World.{World, only_common}
use Rattle.setup.specs.Extracted.{IsRead, AfterFill}
use Rattle.store_files.specs.declared.refusal.StoreRefusal.{StoreRefusal}
use Rattle.store_files.specs.declared.refusal.StoreRefusal.TheVariants as refusal

-- the tables are those of an older schema, and stand for the world
abbrev pub WasOf : Database → World → Type 0
WasOf db w = (format : Format) × StandsAs format db w

-- the tables are those of no older schema
abbrev pub IsForeign : Database → Type 0
IsForeign db = (format : Format) → db.schema ≢ schema_of format

-- a table of an older schema has at least as many rows as there are rowids
abbrev pub IsVastOlder : Database → Type 0
IsVastOlder db = (format : Format) × IsVastAs format db

-- the world is the one of the older tables, or x if the migration is not done
abbrev pub IsOldOr : Database → World → Bool → World → Type 0
IsOldOr db x done w = WasOf db w ⊎ ((done ≡ false) × (w ≡ x))

-- What the result of migrating into a store of x says: it is done, or why it is refused, or memory ran out or a device
-- failed. `NotEmpty` comes before `BadSchema`.
abbrev pub SaysOfMigration : World → Result (Unit {0}) StoreRefusal → Type 0
SaysOfMigration x (Ok u) = x ≡ only_common
SaysOfMigration x (Err refusal.NotEmpty) = x ≢ only_common
SaysOfMigration x (Err refusal.BadSchema) = x ≡ only_common
SaysOfMigration x (Err refusal.NoTeam) = ⊥
SaysOfMigration x (Err refusal.Device) = Unit {0}
SaysOfMigration x (Err refusal.Memory) = Unit {0}

-- The fresh store stands for what the old tables mean if the call returns Ok, and for what it stood for otherwise, and
-- a crash may follow.
pub record MigratesAt (db : Database) (old new : Shown) (x : World) (result : Result (Unit {0}) StoreRefusal) : Type 0
  where
    pub tells : SaysOfMigration x result
    pub world : World
    pub was : IsOldOr db x (is_ok result) world
    pub ok : OnOk result (new.stands world)
    pub err : OnErr result (new.stands x)
    pub crash : AfterFill old new x result world

-- The older store is only read, and so is a fresh store that has more than `common`, or if the older tables are those
-- of no older schema. For each world of the fresh store `MigratesAt` holds, if the disks have returned what was
-- written.
pub record Migrates (old old_new : State) (fresh fresh_new : Shown) (result : Result (Unit {0}) StoreRefusal) : Type 0
  where
    pub clean : doubt old.is_clean ≤ doubt old_new.is_clean
    pub reads : IsOpenIfHonest old → IsReadBy old old_new (is_ok result)
    pub same : IsOpenIfHonest old → HasCleanDisk old_new → IsSettled old → IsTrue old_new.is_open
        → old_new.now ≡ old.now
    pub honest : fresh_new.is_honest → fresh.is_honest
    pub spares : (result ≡ Err refusal.NotEmpty) ⊎ IsForeign old.now → IsRead fresh fresh_new
    pub at : HasCleanDisk old_new → fresh_new.is_honest → IsOpenIfHonest old
        → (x : World) → fresh.stands x → MigratesAt old.now fresh fresh_new x result

-- The call returns `Device` only if the older connection was closed or limited in its steps, or its disk failed in the
-- call, or a table of it is vast, or if a device of the fresh store failed or its count of failures cannot grow.
pub record HasCauseInOne (old old_new : State) (before now : ℕ) (result : Result (Unit {0}) StoreRefusal) : Type 0 where
  pub no_fewer : before ≤ now
  pub device : HasCleanDisk old_new → result ≡ Err refusal.Device
      → (IsHindered old old_new ⊎ IsVastOlder old.now) ⊎ GrewOrFull before now
  -- the count grows by one at most, and only for `Device`
  pub once : now ≤ before + 1
  pub stays : result ≢ Err refusal.Device → now ≡ before
