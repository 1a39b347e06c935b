-- What a call of a store does in each world that the store stands for, and what a crash may leave.
use Rattle.std.specs.Prelude.{ℕ, ◌≡◌, ◌<◌, ◌≤◌, ◌-◌, ◌^◌, ◌⊎◌, Result, OnOk, OnErr, IfOk, IsErrOf, None, true}
use Rattle.std.specs.FinMap as map
use Rattle.world.specs.declared.entry.Place.{Place}
use Rattle.world.specs.declared.entry.Entry.{Entry}
use Rattle.world.specs.declared.registry.StoreFault.{StoreFault}
use Rattle.world.specs.declared.registry.StoreFault.TheVariants.{Device}
use Rattle.world.specs.World.{World, IsEntry, version_limit, count}

-- What is known of a store at a moment.
pub record Shown : Type 1 where
  -- the store stands for this world: its shelves, entries and keys may be these
  pub stands : World → Type 0
  -- so far each disk below has returned what was written, and nobody else has written there
  pub is_honest : Type 0
  -- whatever a crash at this moment leaves stands for the first world or for the second
  pub leaves : World → World → Type 0
  -- how often a device has failed; the count stays once it cannot grow
  pub failures : ℕ

-- a crash leaves nothing that it did not leave before
abbrev pub AddsNothing : Shown → Shown → Type 0
AddsNothing old new = (x y : World) → old.leaves x y → new.leaves x y

-- the count of failures grew, or has reached its last value
abbrev pub GrewOrFull : ℕ → ℕ → Type 0
GrewOrFull before now = (before < now) ⊎ (2 ^ 64 - 1 ≤ now)

-- the count of failures never falls, and a call fails with `Device` only if it grew or has reached its last value
pub record HasCause {T : Type 0} (old new : Shown) (result : Result T StoreFault) : Type 0 where
  pub no_fewer : old.failures ≤ new.failures
  pub device : IsErrOf result Device → GrewOrFull old.failures new.failures

-- What a crash leaves after a call that leads from the world w to the next one. It covers a crash in the middle of a
-- call too: to the call that is a disk which fails from there on, so it ends with a fault, and `failed` says what is
-- left.
pub record AfterCrash {T : Type 0} (old new : Shown) (w : World) (result : Result T StoreFault)
    (next : World) : Type 0 where
  -- if a crash before the call left only w, one after it leaves w or the next world
  pub either : old.leaves w w → new.leaves w next
  -- and after Ok only the next world
  pub alone : old.leaves w w → OnOk result (new.leaves next next)
  -- whatever a crash left before, after Ok it leaves only the next world, or the call changed nothing and added nothing
  -- to it
  pub settled : OnOk result (new.leaves next next ⊎ ((next ≡ w) × AddsNothing old new))
  -- whatever a crash left before, after a failure it leaves w or the next world, or the call added nothing to it
  pub failed : OnErr result (new.leaves w next ⊎ AddsNothing old new)

-- in this world, a call returns the value and leads to the next world, or fails and changes nothing, and a crash may
-- follow
pub record DoesAt {T : Type 0} (old new : Shown) (w : World) (result : Result T StoreFault) (value : T)
    (next : World) : Type 0 where
  pub answer : IfOk result (λ x. x ≡ value)
  pub ok : OnOk result (new.stands next)
  pub err : OnErr result (new.stands w)
  pub crash : AfterCrash old new w result next

-- If the disks are honest up to the end of the call, they were honest before it, and the call does this in each world
-- that the store stood for and that fits. Honest or not, a fault has a cause.
pub record DoesWhere {T : Type 0} (fits : World → Type 0) (old new : Shown)
    (result : Result T StoreFault) (value : World → T) (next : World → World) : Type 0 where
  pub honest : new.is_honest → old.is_honest
  pub at : new.is_honest → (w : World) → old.stands w → fits w → DoesAt old new w result (value w) (next w)
  pub cause : HasCause old new result

-- If the disks are honest, then in each world that the store stood for the call returns this value and makes this next
-- world, or fails and leaves the world. A fault has a cause.
abbrev pub Does : {T : Type 0} → Shown → Shown → Result T StoreFault → (World → T) → (World → World) → Type 0
Does old new result value next = DoesWhere (λ _. Unit {0}) old new result value next

-- In this world, a call returns the value or fails, changes nothing, and adds nothing to what a crash may leave.
pub record ReadsAt {T : Type 0} (old new : Shown) (w : World) (result : Result T StoreFault) (value : T) : Type 0 where
  pub answer : IfOk result (λ x. x ≡ value)
  pub stays : new.stands w
  pub left : AddsNothing old new

-- If the disks are honest, then in each world that the store stood for the call returns this value or fails, and
-- changes nothing. Honest or not, a fault has a cause.
pub record Reads {T : Type 0} (old new : Shown) (result : Result T StoreFault) (value : World → T) : Type 0 where
  pub honest : new.is_honest → old.is_honest
  pub at : new.is_honest → (w : World) → old.stands w → ReadsAt old new w result (value w)
  pub cause : HasCause old new result

-- the entry may be put there: its shelf exists, the place is free, the shelf has fewer versions of the path than the
-- limit, and the entry may stand at the place
pub record IsRoomFor (w : World) (q : Place) (e : Entry) : Type 0 where
  pub stands : map.contains_key w.shelves q.shelf ≡ true
  pub free : map.get w.entries q ≡ None
  pub room : count w q.shelf q.path < version_limit
  pub entry : IsEntry q e
