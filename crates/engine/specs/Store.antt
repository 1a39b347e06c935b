-- What a store goes through while messages are answered.
use Rattle.std.specs.Prelude.{◌≡◌, ◌≤◌, ◌⊎◌, List, [], ◌∷◌, map}
use Rattle.machine.specs.Machine.{after, world_after, MetDevice}
use Rattle.world.specs.World.{World}
use Rattle.world.specs.Store.{Shown, GrewOrFull}
use Rattle.machine.specs.Runs.{Runs}
use Rattle.engine.specs.Exchange.{Exchange, event_of, answer_of, IsUnmet}

-- the machine's world after the exchanges
abbrev pub world_at : World → List Exchange → World
world_at w exchanges = world_after w (map event_of exchanges) (map answer_of exchanges)

-- the store met no fault at the message, or the message changes nothing
abbrev pub IsCalm : World → Exchange → Type 0
IsCalm w x = IsUnmet x.outcome ⊎ (after w (event_of x) ≡ w)

-- each message is calm in the world that it meets
abbrev pub AllCalm : World → List Exchange → Type 0
AllCalm w [] = Unit {0}
AllCalm w (x ∷ xs) = IsCalm w x × AllCalm (world_at w (x ∷ [])) xs

-- As long as all messages but the last are calm, a crash leaves the world before the last or the world after it.
abbrev pub LeavesTwo : Shown → World → List Exchange → Type 0
LeavesTwo shown w [] = shown.leaves w w
LeavesTwo shown w (x ∷ []) = shown.leaves w (after w (event_of x))
LeavesTwo shown w (x ∷ y ∷ more) = IsCalm w x → LeavesTwo shown (world_at w (x ∷ [])) (y ∷ more)

-- From old to new the store went through the exchanges.
pub record GoesThrough (old new : Shown) (exchanges : List Exchange) : Type 0 where
  -- the messages were answered in a run of the machine
  pub runs : Runs old new (map event_of exchanges) (map answer_of exchanges)
  -- if a crash before the messages could leave only the first world, a crash now leaves one of two worlds, as
  -- `LeavesTwo` says
  pub left : new.is_honest → (w : World) → old.stands w → old.leaves w w → LeavesTwo new w exchanges
  -- if also all messages were calm, a crash now leaves only the last world
  pub settled : new.is_honest → (w : World) → old.stands w → AllCalm w exchanges → old.leaves w w
      → new.leaves (world_at w exchanges) (world_at w exchanges)
  -- without messages nothing changes
  pub untouched : exchanges ≡ [] → new.is_honest → (w x : World) → old.leaves w x → new.leaves w x
  -- the count of failures never falls, and a `Device` fault is met only if it grew or is full
  pub no_fewer : old.failures ≤ new.failures
  pub device : MetDevice (map answer_of exchanges) → GrewOrFull old.failures new.failures
