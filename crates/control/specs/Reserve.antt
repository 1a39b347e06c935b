-- The room on the disk of a store that an order gives up when it meets a fault of the disk, and the copies of the
-- store that are begun.
use Rattle.std.specs.Prelude.{ℕ, ◌≡◌, ◌≤◌, ◌+◌, ◌-◌, ◌^◌, ◌⊎◌, ◌++◌, Bool, true, false, List, [], ◌∷◌}
use Rattle.std.specs.Prelude.{Result, Err, IsErrOf}
use Rattle.std.specs.Borrow.{MutBor}
use Rattle.world.specs.World.{World}
use Rattle.world.specs.Store.{Shown, GrewOrFull}
use Rattle.world.specs.declared.registry.RegistryReply.{RegistryReply}
use Rattle.world.specs.declared.registry.StoreFault.{StoreFault}
use Rattle.world.specs.declared.registry.StoreFault.TheVariants.{Device}
use Rattle.control.specs.declared.reserve.Room.{Room}
use Rattle.control.specs.declared.reserve.Room.TheVariants.{Whole, Short, Missing}
use Rattle.control.specs.Copying.{Making, ToPath, OfKey}
use Rattle.control.specs.declared.copies.CopyRefusal.TheVariants.{Busy}

-- what was done on the disk of a served store, beside the store
pub data DiskDeed : Type 0 where
  -- the reserve was made, or one that was there was filled, and there is so much of it
  Made : Room → DiskDeed
  -- room was asked for, and there was some to give up or none
  GaveUp : Bool → DiskDeed
  -- as much of it as the disk has room for was taken again, and so much was found
  Renewed : Room → DiskDeed
  -- a copy to a file with this path was begun
  BeganCopy : List ℕ → DiskDeed

-- all of the room is there
abbrev pub is_whole : Room → Bool
is_whole Whole = true
is_whole Short = false
is_whole Missing = false

-- where a crash leaves only this world, it leaves any other or this one, which says less
abbrev pub LeavesOthers : Shown → Type 0
LeavesOthers shown = (w x : World) → shown.leaves x x → shown.leaves w x

-- the count of failures grew twice, or has reached its last value
abbrev pub GrewTwiceOrFull : ℕ → ℕ → Type 0
GrewTwiceOrFull before now = (before + 2 ≤ now) ⊎ (2 ^ 64 - 1 ≤ now)

-- no room was there to be given up
abbrev pub FindsNone : List DiskDeed → List DiskDeed → Type 0
FindsNone deeds deeds_new = deeds_new ≡ deeds ++ GaveUp false ∷ []

-- room was given up
abbrev pub GivesUp : List DiskDeed → List DiskDeed → Type 0
GivesUp deeds deeds_new = deeds_new ≡ deeds ++ GaveUp true ∷ []

-- what an order that ended so did to the reserve
pub record UsesRoom (old new : Shown) (deeds deeds_new : List DiskDeed) (result : Result RegistryReply StoreFault) :
    Type 0 where
  -- nothing, unless a disk failed
  pub cause : (deeds_new ≡ deeds) ⊎ GrewOrFull old.failures new.failures
  -- room was asked for once at most
  pub once : (deeds_new ≡ deeds) ⊎ (FindsNone deeds deeds_new ⊎ GivesUp deeds deeds_new)
  -- no room was there only where it then ended with the fault of the disk
  pub none : FindsNone deeds deeds_new → result ≡ Err Device
  -- it ended with a fault of the disk only where there was no room, or where it met a second one with it
  pub device : IsErrOf result Device → FindsNone deeds deeds_new
      ⊎ (GivesUp deeds deeds_new × GrewTwiceOrFull old.failures new.failures)

-- What an order that ended so did to the reserve, whatever the store had met before it: nothing, which is not so where
-- it ended with a fault of the disk; it found no room, and ended with that fault; or it gave room up.
abbrev pub IsUse : Result RegistryReply StoreFault → List DiskDeed → Type 0
IsUse result own = ((own ≡ []) × ¬ (result ≡ Err Device))
    ⊎ (((own ≡ GaveUp false ∷ []) × (result ≡ Err Device)) ⊎ (own ≡ GaveUp true ∷ []))

-- what is noted of something that was to be made: that a copy was begun, unless another one was being made
abbrev pub begun_for : Making → List DiskDeed
begun_for (ToPath path (Err Busy)) = []
begun_for (ToPath path other) = BeganCopy path ∷ []
begun_for (OfKey key printed told) = []

-- what was done to the reserve of a server so far, how much of it there was when it was last looked for, and the name of
-- its loan
abbrev pub Lent : Type 0
Lent = List DiskDeed × Room × ℕ

-- the reserve as a server has it
abbrev pub lent : {M : Type 0} → (M → List DiskDeed) → MutBor M → Room → Lent
lent deeds reserve found = (deeds reserve.now, found, reserve.ghost_name)

-- the reserve once this was begun
abbrev pub once_begun : Making → Lent → Lent
once_begun (ToPath path told) lent = (lent.0 ++ BeganCopy path ∷ [], lent.1, lent.2)
once_begun (OfKey key printed told) lent = lent

-- to the same reserve this was done, and nothing else, and it was not looked for
abbrev pub DoesMore : (does : List DiskDeed → Type 0) → Lent → Lent → Type 0
DoesMore does lent lent_new =
    (lent_new.2 ≡ lent.2) × (lent_new.1 ≡ lent.1) × (more : List DiskDeed) × (lent_new.0 ≡ lent.0 ++ more) × does more
