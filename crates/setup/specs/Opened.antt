-- What opening the tables of a connection says of them.
use Rattle.std.specs.Prelude.{◌≡◌, ◌≢◌, ◌⊎◌, IsTrue}
use Rattle.sqlite.specs.Tree.{Trees}
use Rattle.sqlite.specs.Effect.{Database}
use Rattle.sqlite.specs.State.{State}
use Rattle.world.specs.World.{World, only_common}
use Rattle.tables.specs.Schema.{store_schema, no_schema}
use Rattle.tables.specs.Means.{Means, StandFor, StandsForNone}
use Rattle.setup.specs.Shown.{shown_of, BeginsAt}

-- the tables are those of the schema, stay as they are, and stand for the world
pub record IsFound (old new : State) (w : World) : Type 0 where
  pub schema : old.now.schema ≡ store_schema
  pub same : new.now ≡ old.now
  pub means : Means old.now.trees w

-- the tables are found, or made if there were none, and the store begins at their world
pub record Opens (old new : State) : Type 0 where
  pub is_open : IsTrue new.is_open
  pub world : World
  pub tables : ((old.now.schema ≡ no_schema) × (world ≡ only_common)) ⊎ IsFound old new world
  pub begins : BeginsAt (shown_of new) world

-- there are tables, and if they are those of the schema, they stand for no world
pub record IsBad (db : Database) : Type 0 where
  pub some : db.schema ≢ no_schema
  pub none : StandsForNone db

-- a crash leaves what it left before or, if there were no tables, tables that stand for `common` alone
abbrev pub LeavesFirst : State → State → Type 0
LeavesFirst old new = (db : Trees) → new.may_leave db
    → old.may_leave db ⊎ ((old.now.schema ≡ no_schema) × StandFor db only_common)
