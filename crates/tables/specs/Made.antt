-- What an empty connection holds after the tables are made.
use Rattle.std.specs.Prelude.{◌≡◌, true, IsTrue}
use Rattle.sqlite.specs.Effect.{IsDatabase}
use Rattle.sqlite.specs.State.{State}
use Rattle.tables.specs.Schema.{store_schema}
use Rattle.world.specs.World.{only_common}
use Rattle.tables.specs.Means.{Means}

-- within a transaction that is still open, the tables of the schema were made and stand for `common` alone; nothing was
-- committed
pub record IsMade (old new : State) : Type 0 where
  pub schema : new.now.schema ≡ store_schema
  pub sound : IsDatabase new.now
  pub means : Means new.now.trees only_common
  pub is_open : IsTrue new.is_open
  pub was_open : IsTrue old.is_open
  pub committed : new.committed ≡ old.committed
  pub inside : new.in_transaction ≡ true
