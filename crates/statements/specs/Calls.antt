-- What statements do to a connection, and to the world that its tables stand for.
use Rattle.std.specs.Prelude.{ℕ, ◌≤◌, ◌≡◌, ◌⊎◌, List, [], ◌∷◌, Option, Some, None, IsTrue, Bool, false, if◌then◌else◌}
use Rattle.sqlite_trees.specs.View.{doubt}
use Rattle.sqlite.specs.Tree.{Trees}
use Rattle.sqlite.specs.Order.{Row}
use Rattle.sqlite.specs.Effect.{Database, Reads, ReadsFirst}
use Rattle.sqlite.specs.Listing.{understood}
use Rattle.sqlite.specs.State.{State, HasCleanDisk}
use Rattle.sqlite.proofs.Callers.{command_of}
use Rattle.world.specs.World.{World}
use Rattle.tables.specs.Schema.{store_schema}
use Rattle.tables.specs.Calls.{Honestly}
use Rattle.tables.specs.Means.{Stands, StandFor}

-- P holds in each world that the tables stood for before, if the disk has returned what was written
abbrev pub InEachWorld : State → State → (State → State → World → Type 0) → Type 0
InEachWorld old new P = Honestly old new (λ old new. (w : World) → Stands old w → P old new w)

-- the connection is open, if the disk has returned what was written
abbrev pub IsOpenIfHonest : State → Type 0
IsOpenIfHonest s = HasCleanDisk s → IsTrue s.is_open

-- each world that the tables stood for they still stand for, and a crash leaves nothing that it did not leave before
pub record Spares (old new : State) : Type 0 where
  pub clean : doubt old.is_clean ≤ doubt new.is_clean
  pub stays : (w : World) → Stands old w → Stands new w
  pub left : HasCleanDisk new → (w : World) → Stands old w → (db : Trees) → new.may_leave db → old.may_leave db

-- the row is the first of an answer to the query; None: the answer is empty
abbrev pub Selects : List ℕ → Row → Database → Option Row → Type 0
Selects sql params db (Some row) = ReadsFirst (command_of (understood store_schema sql)) db params (row ∷ [])
Selects sql params db None = Reads (command_of (understood store_schema sql)) db params []

-- whatever a crash at this moment may leave stands for a world of which P holds
abbrev pub LeavesOnly : State → (World → Type 0) → Type 0
LeavesOnly s P = (db : Trees) → s.may_leave db → (x : World) × StandFor db x × P x

-- a crash leaves nothing that it did not leave before
abbrev pub LeavesNoMore : State → State → Type 0
LeavesNoMore old new = (db : Trees) → new.may_leave db → old.may_leave db

-- A call turns `w` into `next` if it is done, and keeps `w` otherwise. If a crash before it left only `w`, a crash
-- after it leaves `w` or `next`. If it is done, a crash leaves only `next`. If it is not done, a crash leaves `w` or
-- `next`, or nothing that it did not leave before, whatever that was.
pub record ChangesAt (old new : State) (done : Bool) (w next : World) : Type 0 where
  pub world : Stands old w → Stands new (if done then next else w)
  pub left : HasCleanDisk new → Stands old w → LeavesOnly old (λ x. x ≡ w) → LeavesOnly new (λ x. (x ≡ w) ⊎ (x ≡ next))
  pub alone : IsTrue done → HasCleanDisk new → Stands old w → LeavesOnly new (λ x. x ≡ next)
  pub failed : done ≡ false → HasCleanDisk new → Stands old w
      → LeavesOnly new (λ x. (x ≡ w) ⊎ (x ≡ next)) ⊎ LeavesNoMore old new

-- a call turned each world that the tables stood for into its next world, or left it as it was
pub record Changes (old new : State) (done : Bool) (next : World → World) : Type 0 where
  pub clean : doubt old.is_clean ≤ doubt new.is_clean
  pub at : (w : World) → ChangesAt old new done w (next w)
