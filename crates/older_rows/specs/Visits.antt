-- Visits of the rows of an older store, each of which is put into a fresh store.
use Rattle.std.specs.Prelude.{ℕ, ◌≡◌, ◌≤◌, Bool, false, List, [], ◌∷◌, Result, Ok, Err, IsTrue}
use Rattle.sqlite.specs.Effect.{Reads}
use Rattle.sqlite.specs.Listing.{understood}
use Rattle.sqlite.specs.Order.{Row}
use Rattle.sqlite.specs.Tree.{Trees}
use Rattle.sqlite.specs.State.{State, HasCleanDisk, Survives}
use Rattle.sqlite.proofs.Callers.{command_of}
use Rattle.sqlite_trees.specs.View.{doubt}
use Rattle.older.specs.declared.schema.Format.{Format}
use Rattle.older.specs.Schemas.{schema_of}
use Rattle.statements.specs.Extract.{IsReadBy}
use Rattle.statements.specs.Rows.{Filling, GoesOn}

-- for each row in turn, `Puts` relates the visitor and the tables before it to those after it
abbrev pub Visits : {X : Type 0} → (X → Row → Trees → X → Trees → Type 0) → X → Trees → List Row → X → Trees → Type 0
Visits Puts so_far db [] end after = (end ≡ so_far) × (after ≡ db)
Visits {X} Puts so_far db (row ∷ rows) end after =
    (next : X) × (mid : Trees) × Puts so_far row db next mid × Visits Puts next mid rows end after

-- Each row that a query showed of the old tables of a format was visited in turn, and the fresh store may be filled
-- further.
abbrev pub IsFilledBy : {X : Type 0} → Format → List ℕ → (X → Row → Trees → X → Trees → Type 0)
    → State → X → State → X → State → Type 0
IsFilledBy format sql Puts old so_far fresh end filled =
    Filling filled
    × ((rows : List Row) × Reads (command_of (understood (schema_of format) sql)) old.now [] rows
    × Visits Puts so_far fresh.now.trees rows end filled.now.trees)

-- the connection is open and its tables are those of the format, if the disk has returned what was written
abbrev pub IsReadyAs : Format → State → Type 0
IsReadyAs format s = HasCleanDisk s → IsTrue s.is_open × (s.now.schema ≡ schema_of format)

-- whether the call returned Ok(true)
abbrev pub is_done : {E : Type 0} → Result Bool E → Bool
is_done (Ok all) = all
is_done (Err e) = false

-- Rows of an older store, which is only read, are put into a fresh one inside a transaction of it. If the call is done,
-- `Makes` relates the old tables, the fresh tables before, and the fresh tables after.
pub record Moves (format : Format) (Makes : Trees → Trees → Trees → Type 0)
    (old old_new fresh fresh_new : State) (done : Bool) : Type 0 where
  pub clean : doubt old.is_clean ≤ doubt old_new.is_clean
  pub reads : IsReadyAs format old → IsReadBy old old_new done
  pub survives : HasCleanDisk old_new → IsReadyAs format old → Survives old old_new (λ _. ⊥)
  pub goes_on : GoesOn fresh fresh_new done
  pub makes :
      HasCleanDisk old_new → HasCleanDisk fresh_new → IsReadyAs format old → Filling fresh → IsTrue done
      → Makes old.now.trees fresh.now.trees fresh_new.now.trees × Filling fresh_new
