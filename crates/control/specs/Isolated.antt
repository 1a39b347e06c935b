-- Peers and operators learn nothing about the messages of others.
use Rattle.std.specs.Prelude.{ℕ, ◌≡◌, List, [], ◌∷◌, Bool, map}
use Rattle.world.specs.World.{World, chain}
use Rattle.world.specs.Store.{Shown}
use Rattle.machine.specs.declared.reply.Answer.{Answer}
use Rattle.machine.specs.declared.reply.Answer.TheVariants.{Replied, Failed}
use Rattle.machine.specs.Isolation.{remaining, marked, Agree}
use Rattle.engine.specs.AnsweredEvent.{EventOrigin, origin_of}
use Rattle.engine.specs.Reply.{text_of}
use Rattle.control.specs.Outcome.{outcome_of}
use Rattle.orders.specs.Outcome.{line_of}
use Rattle.control.specs.Tasks.{Task, Asked, Ordered, answered_of, task_event, task_answer, world_at, GoesThroughTasks}

-- what came: a message, or the event of a registry command
abbrev pub origin_at : Task → EventOrigin
origin_at t = origin_of (answered_of t)

-- what is written for it: the bytes for a message, or the line of the outcome of a registry command
abbrev pub text_at : Task → List ℕ
text_at (Asked x) = text_of x
text_at (Ordered command told) = line_of (outcome_of told)

-- puts a task before others if this answer is a reply
abbrev pub if_faultless : Task → Answer → List Task → List Task
if_faultless t (Replied r) ts = t ∷ ts
if_faultless t (Failed fault) ts = ts

-- the tasks that met no fault: messages that were not answered 503, and registry commands that were done or refused
abbrev pub faultless : List Task → List Task
faultless [] = []
faultless (t ∷ ts) = if_faultless t (task_answer t) (faultless ts)

-- which of these remain for a shelf: all but the messages whose key belongs, at that moment, to a shelf that it does
-- not see at the end
abbrev pub remaining_for : World → List ℕ → List Task → List Bool
remaining_for w s tasks = remaining w (chain (world_at w tasks) s) (map task_event (faultless tasks))

-- Two stores, each on an honest disk, went through tasks, from worlds that agreed on what the shelf sees at the end of
-- the first. Each was read in between, for a copy or a ping, or not.
pub record AreTwoRuns (old new old_too new_too : Shown) (w x : World) (s : List ℕ)
    (full purged : List Task) : Type 0 where
  pub stands : old.stands w
  pub stands_too : old_too.stands x
  pub honest : new.is_honest
  pub honest_too : new_too.is_honest
  pub agree : Agree w x (chain (world_at w full) s)
  pub read : Bool
  pub read_too : Bool
  pub through : GoesThroughTasks old new full read
  pub through_too : GoesThroughTasks old_too new_too purged read_too

-- The texts written for the remaining tasks are equal, and the stores stand for worlds that agree again.
pub record AreAnsweredAlike (new new_too : Shown) (w x : World) (s : List ℕ) (full purged : List Task) : Type 0 where
  pub texts : map text_at (faultless purged) ≡ marked (remaining_for w s full) (map text_at (faultless full))
  pub stands : new.stands (world_at w full)
  pub stands_too : new_too.stands (world_at x purged)
  pub agree : Agree (world_at w full) (world_at x purged) (chain (world_at w full) s)

-- Two such runs write alike if the tasks of the second that met no fault are those of the first that remain.
abbrev pub TasksAreAnsweredAlike : Shown → Shown → Shown → Shown → Type 0
TasksAreAnsweredAlike old new old_too new_too =
    (w x : World) (s : List ℕ) (full purged : List Task) → AreTwoRuns old new old_too new_too w x s full purged
    → map origin_at (faultless purged) ≡ marked (remaining_for w s full) (map origin_at (faultless full))
    → AreAnsweredAlike new new_too w x s full purged
