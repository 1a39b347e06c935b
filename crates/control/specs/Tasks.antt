-- What a store goes through while peers send requests and operators send orders.
use Rattle.std.specs.Prelude.{ℕ, ◌≡◌, ◌≤◌, ◌+◌, ◌⊎◌, Bool, true, false, List, [], ◌∷◌, map, Result, Ok, Err}
use Rattle.machine.specs.declared.request.Event.{Event}
use Rattle.machine.specs.declared.reply.Answer.{Answer}
use Rattle.machine.specs.declared.reply.Answer.TheVariants.{Replied, Failed}
use Rattle.machine.specs.declared.reply.Reply.TheVariants.{Registry}
use Rattle.machine.specs.Machine.{after, world_after, MetDevice}
use Rattle.machine.specs.Runs.{Runs}
use Rattle.world.specs.World.{World}
use Rattle.world.specs.Store.{Shown, GrewOrFull}
use Rattle.world.specs.declared.registry.RegistryReply.{RegistryReply}
use Rattle.world.specs.declared.registry.StoreFault.{StoreFault}
use Rattle.engine.specs.Exchange.{Exchange, IsUnmet, answer_of as answer_to_message}
use Rattle.engine.specs.AnsweredEvent.{AnsweredEvent, Message, Command, event_at, answer_at}
use Rattle.control.specs.RegistryCommand.{event_of}
use Rattle.orders.specs.declared.command.RegistryCommand.{RegistryCommand}

-- a message that was answered, or a registry command that was carried out
pub data Task : Type 0 where
  Asked : Exchange → Task
  Ordered : RegistryCommand → Result RegistryReply StoreFault → Task

abbrev pub answer_to_command : Result RegistryReply StoreFault → Answer
answer_to_command (Ok r) = Replied (Registry r)
answer_to_command (Err fault) = Failed fault

-- what came to the store, and its answer
abbrev pub answered_of : Task → AnsweredEvent
answered_of (Asked x) = record { origin = Message x.message; answer = answer_to_message x }
answered_of (Ordered command told) = record { origin = Command (event_of command); answer = answer_to_command told }

abbrev pub task_event : Task → Event
task_event t = event_at (answered_of t)

abbrev pub task_answer : Task → Answer
task_answer t = answer_at (answered_of t)

-- how many of them are messages
abbrev pub messages : List Task → ℕ
messages [] = 0
messages (Asked x ∷ ts) = messages ts + 1
messages (Ordered command told ∷ ts) = messages ts

-- the registry command met no fault
abbrev pub IsUnmetCommand : Result RegistryReply StoreFault → Type 0
IsUnmetCommand (Ok r) = Unit {0}
IsUnmetCommand (Err fault) = ⊥

abbrev pub IsUnmetTask : Task → Type 0
IsUnmetTask (Asked x) = IsUnmet x.outcome
IsUnmetTask (Ordered command told) = IsUnmetCommand told

-- the machine's world after the tasks
abbrev pub world_at : World → List Task → World
world_at w tasks = world_after w (map task_event tasks) (map task_answer tasks)

-- the store met no fault at the task, or the task changes nothing
abbrev pub IsCalm : World → Task → Type 0
IsCalm w t = IsUnmetTask t ⊎ (after w (task_event t) ≡ w)

-- each task is calm in the world that it meets
abbrev pub AllCalm : World → List Task → Type 0
AllCalm w [] = Unit {0}
AllCalm w (t ∷ ts) = IsCalm w t × AllCalm (world_at w (t ∷ [])) ts

-- As long as all tasks but the last are calm, a crash leaves the world before the last or the world after it.
abbrev pub LeavesTwo : Shown → World → List Task → Type 0
LeavesTwo shown w [] = shown.leaves w w
LeavesTwo shown w (t ∷ []) = shown.leaves w (after w (task_event t))
LeavesTwo shown w (t ∷ u ∷ more) = IsCalm w t → LeavesTwo shown (world_at w (t ∷ [])) (u ∷ more)

-- If the flag is true, the store stands for a world.
abbrev pub StandsIf : Bool → Shown → Type 0
StandsIf false shown = Unit {0}
StandsIf true shown = (w : World) × shown.stands w

-- From old to new the store went through the tasks, and was read for copies between them or was not.
pub record GoesThroughTasks (old new : Shown) (tasks : List Task) (read : Bool) : Type 0 where
  -- in one run of the machine the messages were answered and the registry commands carried out
  pub runs : Runs old new (map task_event tasks) (map task_answer tasks)
  -- if a crash before the tasks could leave only the first world, a crash now leaves one of two worlds, as `LeavesTwo`
  -- says
  pub left : new.is_honest → (w : World) → old.stands w → old.leaves w w → LeavesTwo new w tasks
  -- if also all tasks were calm, a crash now leaves only the last world
  pub settled : new.is_honest → (w : World) → old.stands w → AllCalm w tasks → old.leaves w w
      → new.leaves (world_at w tasks) (world_at w tasks)
  -- without tasks nothing changes
  pub untouched : tasks ≡ [] → StandsIf read old → new.is_honest → (w x : World) → old.leaves w x → new.leaves w x
  -- the count of failures never falls, and a `Device` fault is met only if it grew or is full
  pub no_fewer : old.failures ≤ new.failures
  pub device : MetDevice (map task_answer tasks) → GrewOrFull old.failures new.failures

-- the store went through tasks with at most this many messages
pub record GoesOn (old new : Shown) (most : ℕ) : Type 0 where
  pub tasks : List Task
  pub read : Bool
  pub few : messages tasks ≤ most
  pub through : GoesThroughTasks old new tasks read
