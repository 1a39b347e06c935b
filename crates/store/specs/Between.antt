-- A copy that is made a slice at a time, with turns between two slices.
use Rattle.std.specs.Prelude.{Bool, false, Result, Ok, Err}
use Rattle.std.specs.FinSet as set
use Rattle.sqlite.specs.State.{State}
use Rattle.interleave.specs.Interleave.{IsSince}
use Rattle.store_files.specs.declared.refusal.StoreRefusal.{StoreRefusal}
use Rattle.store_files.specs.declared.refusal.StoreRefusal.TheVariants as refusal
use Rattle.slices.specs.Slices.{HoldsUpTo}
use Rattle.slices.specs.declared.cursor.Cursor.{Cursor}
use Rattle.statements.specs.declared.extract_rows.CopyError.{CopyError}
use Rattle.store.specs.declared.between.CopyEnd.{CopyEnd}
use Rattle.store.specs.declared.between.CopyEnd.TheVariants.{Refused, Ended}
use Rattle.world.specs.Store.{Shown}
use Rattle.world.specs.World.{World, place_cmp}

-- all was copied
abbrev pub is_whole : Result Bool CopyError → Bool
is_whole (Ok whole) = whole
is_whole (Err e) = false

-- the result as that of a copy without turns: one that was ended leaves what one leaves for want of memory
abbrev pub told : Result (Unit {0}) CopyEnd → Result (Unit {0}) StoreRefusal
told (Ok u) = Ok u
told (Err (Refused why)) = Err why
told (Err Ended) = Err refusal.Memory

-- the store has been w since these newcomers came, and the transaction holds of w what comes before the cursor
pub record HoldsIn (source : Shown) (w : World) (newcomers : set.FinSet place_cmp) (at : Cursor) (fresh : State) : Type
    0 where
  pub later : World
  pub stands : source.stands later
  pub since : IsSince w later newcomers
  pub holds : HoldsUpTo w at fresh
