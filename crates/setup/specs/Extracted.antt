-- What copying shelves of a store into a fresh store finds there and leaves of both.
use Rattle.std.specs.Prelude.{ℕ, ◌≡◌, ◌≢◌, ◌≤◌, ◌+◌, ◌⊎◌, List, true, Some, Result, Err, OnOk, OnErr}
use Rattle.std.specs.FinMap as map
use Rattle.sqlite.specs.State.{State, HasCleanDisk}
use Rattle.tables.specs.Means.{StandsFor}
use Rattle.world.specs.declared.entry.Entry.{Entry}
use Rattle.world.specs.declared.entry.Holder.{Holder}
use Rattle.world.specs.declared.entry.Place.{Place}
use Rattle.world.specs.Store.{Shown, AddsNothing, GrewOrFull}
use Rattle.world.specs.World.{World, common}
use Rattle.store_files.specs.declared.refusal.StoreRefusal.{StoreRefusal}
use Rattle.store_files.specs.declared.refusal.StoreRefusal.TheVariants as refusal

-- ---- a store that has more than `common`

abbrev pub HasOtherShelf : World → Type 0
HasOtherShelf x = (s : List ℕ) × (map.contains_key x.shelves s ≡ true) × (s ≢ common)

abbrev pub HasKey : World → Type 0
HasKey x = (k : List ℕ) × (h : Holder) × (map.get x.keys k ≡ Some h)

abbrev pub HasEntry : World → Type 0
HasEntry x = (q : Place) × (e : Entry) × (map.get x.entries q ≡ Some e)

-- P holds of each world of the source and each world of the fresh store, if both disks have returned what was written
abbrev pub InEachTwo : State → State → State → State → (World → World → Type 0) → Type 0
InEachTwo source source_new fresh fresh_new P =
    HasCleanDisk source_new → HasCleanDisk fresh_new → (w x : World) → StandsFor source w → StandsFor fresh x → P w x

-- ---- the calls `extract`, `extract_teams` and `copy`

-- the store still stands for each world that it stood for, and if a crash left one of two worlds, it still leaves one
-- of the two
pub record IsRead (old new : Shown) : Type 0 where
  pub honest : new.is_honest → old.is_honest
  pub stays : new.is_honest → (w : World) → old.stands w → new.stands w
  pub left : new.is_honest → (w x y : World) → old.stands w → old.leaves x y → new.leaves x y

-- the refusal is that there is no such team, or that the fresh store has more than `common`
abbrev pub IsUnfit : Result (Unit {0}) StoreRefusal → Type 0
IsUnfit result = (result ≡ Err refusal.NoTeam) ⊎ (result ≡ Err refusal.NotEmpty)

-- What a crash leaves of a fresh store after a call that leads it from the world x to the next one, wherever an earlier
-- fault had left it. It covers a crash in the middle of the call too, as `AfterCrash` of a call on an open store does.
pub record AfterFill (old new : Shown) (x : World) (result : Result (Unit {0}) StoreRefusal) (next : World) : Type 0
  where
    -- if a crash before the call left only x, one after it leaves x or the next world
    pub either : old.leaves x x → new.leaves x next
    -- whatever a crash left before, after Ok it leaves only the next world
    pub alone : OnOk result (new.leaves next next)
    -- whatever a crash left before, after a failure it leaves x or the next world, or the call added nothing to it
    pub failed : OnErr result (new.leaves x next ⊎ AddsNothing old new)

-- the call returns `Device` only if a device of one of the two stores failed in it, or a count of failures cannot grow
pub record HasCauseInEither (before now before_too now_too : ℕ) (result : Result (Unit {0}) StoreRefusal) : Type 0 where
  pub no_fewer : before ≤ now
  pub no_fewer_too : before_too ≤ now_too
  pub device : result ≡ Err refusal.Device → GrewOrFull before now ⊎ GrewOrFull before_too now_too
  -- the two counts together grow by one at most, and only for `Device`
  pub once : now + now_too ≤ (before + before_too) + 1
  pub stays : result ≢ Err refusal.Device → (now ≡ before) × (now_too ≡ before_too)
