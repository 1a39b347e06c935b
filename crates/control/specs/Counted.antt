-- What the counts of shelves tell of the store that a peer is answered from.
use Rattle.std.specs.Prelude.{ℕ, ◌≡◌, ◌≢◌, ◌<◌, ◌≤◌, ◌-◌, ◌^◌, ◌⊎◌, ◌++◌, Bool, true, List, Option, None}
use Rattle.std.specs.Prelude.{unwrap_or}
use Rattle.std.specs.FinMap as map
use Rattle.histories.specs.Calls.{Writes}
use Rattle.world.specs.declared.entry.Place.{Place}
use Rattle.world.specs.declared.registry.StoreFault.{StoreFault}
use Rattle.world.specs.Store.{Shown}
use Rattle.world.specs.World.{World}
use Rattle.control.specs.Noted.{AreOfRoom, AreUnheld, IsAbout, Noted}
use Rattle.control.specs.Notices.{Met, WritesLines}
use Rattle.control.specs.Traffic.{none}
use Rattle.control.specs.declared.faults.RecentFaults.{RecentFaults}
use Rattle.control.specs.declared.reserve.Room.{Room}
use Rattle.control.specs.declared.store_call.StoreCall.{StoreCall}
use Rattle.control.specs.declared.traffic.Traffic.{Traffic}

-- how often a shelf was published to
abbrev pub publishes_of : Traffic → List ℕ → ℕ
publishes_of t shelf = (unwrap_or (map.get t.shelves shelf) none).publishes

-- how often it was fetched from
abbrev pub fetches_of : Traffic → List ℕ → ℕ
fetches_of t shelf = (unwrap_or (map.get t.shelves shelf) none).fetches

-- a count did not fall, or it has reached its last value
abbrev pub IsNoFewer : ℕ → ℕ → Type 0
IsNoFewer before now = (before ≤ now) ⊎ (2 ^ 64 - 1 ≤ now)

-- it grew, or it has reached that
abbrev pub IsMore : ℕ → ℕ → Type 0
IsMore before now = (before < now) ⊎ (2 ^ 64 - 1 ≤ now)

-- no count fell
abbrev pub CountsNoFewer : Traffic → Traffic → Type 0
CountsNoFewer before now =
    (shelf : List ℕ) → IsNoFewer (publishes_of before shelf) (publishes_of now shelf)
    × IsNoFewer (fetches_of before shelf) (fetches_of now shelf)

-- each version that the later world has, and the first has not, is counted as a publish to its shelf
abbrev pub CountsEach : World → World → Traffic → Traffic → Type 0
CountsEach first later before now =
    (q : Place) → map.get first.entries q ≡ None → map.get later.entries q ≢ None
    → IsMore (publishes_of before q.shelf) (publishes_of now q.shelf)

-- this shelf has no version in the later world that the first has not
abbrev pub HasNoNewVersion : World → World → List ℕ → Type 0
HasNoNewVersion first later shelf =
    (q : Place) → q.shelf ≡ shelf → map.get first.entries q ≡ None → map.get later.entries q ≡ None

-- the publishes of each such shelf are as many as before
abbrev pub CountsNoOther : World → World → Traffic → Traffic → Type 0
CountsNoOther first later before now =
    (shelf : List ℕ) → HasNoNewVersion first later shelf → publishes_of now shelf ≡ publishes_of before shelf

-- a fault is noted, or that memory ran out
abbrev pub HasTrouble : Option Noted → Type 0
HasTrouble noted = (asked : StoreCall) × (fault : StoreFault) × IsAbout (Met asked fault) noted

-- The world has come of one of those that were, and no version is gone. No count fell. What was published since is
-- counted, unless a fault is noted or that memory ran out, and nothing else is. Nothing was published while publishes
-- are held back.
pub record HasCounted (was : World → Type 0) (held : Bool) (before now : Traffic) (noted : Option Noted)
    (later : World) : Type 0 where
  pub first : World
  pub stood : was first
  pub kept : (q : Place) → map.get later.entries q ≡ None → map.get first.entries q ≡ None
  pub no_fewer : CountsNoFewer before now
  pub each : CountsEach first later before now ⊎ HasTrouble noted
  pub no_other : CountsNoOther first later before now
  pub unpublished : held ≡ true → later.entries ≡ first.entries

-- The store stands for a world that has come of one that it stood for. No count fell. What was published since is
-- counted, unless a fault is noted or that memory ran out, and nothing else is.
pub record CountsSince (old new : Shown) (before now : Traffic) (noted : Option Noted) : Type 0 where
  pub first : World
  pub later : World
  pub stood : old.stands first
  pub stands : new.stands later
  pub no_fewer : CountsNoFewer before now
  pub each : CountsEach first later before now ⊎ HasTrouble noted
  pub no_other : CountsNoOther first later before now

-- so it is if the disks are honest, and the store stood for a world
pub record CountsPublishes (old new : Shown) (before now : Traffic) (noted : Option Noted) : Type 0 where
  pub since : new.is_honest → (w : World) → old.stands w → CountsSince old new before now noted

-- the store stands for a world with the versions of one that it stood for
pub record PublishesNone (old new : Shown) : Type 0 where
  pub first : World
  pub later : World
  pub stood : old.stands first
  pub stands : new.stands later
  pub same : later.entries ≡ first.entries

-- so it is while publishes are held back, if the disks are honest, and the store stood for a world
pub record HoldsBack (held : Bool) (old new : Shown) : Type 0 where
  pub stays : held ≡ true → new.is_honest → (w : World) → old.stands w → PublishesNone old new

-- the lines are those of the room on the disk, and then that of what is noted for a peer, unless it is held back
abbrev pub AreOfPeer : Room → Room → RecentFaults → RecentFaults → Option Noted → List (List ℕ) → Type 0
AreOfPeer room room_new faults faults_new noted lines =
    (own : List (List ℕ)) × (rest : List (List ℕ)) × (lines ≡ own ++ rest) × AreOfRoom room room_new own
    × AreUnheld faults faults_new noted rest

-- what a peer published is counted, unless a fault is noted or that memory ran out, and what is noted is written
pub record NotesAndTells (old new : Shown) (before now : Traffic) (room room_new : Room)
    (faults faults_new : RecentFaults) (errors errors_new : Option (List ℕ) × Writes) : Type 0 where
  pub noted : Option Noted
  pub counts : CountsPublishes old new before now noted
  pub tells : WritesLines (AreOfPeer room room_new faults faults_new noted) errors errors_new
