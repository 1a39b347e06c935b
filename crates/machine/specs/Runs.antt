-- What a list of events does in each world that a store stands for, and what a crash may leave.
use Rattle.std.specs.Prelude.{◌≡◌, ◌≢◌, ◌⊎◌, List, ◌∷◌}
use Rattle.world.specs.Store.{Shown}
use Rattle.world.specs.World.{World}
use Rattle.machine.specs.declared.request.Event.{Event}
use Rattle.machine.specs.declared.reply.Answer.{Answer}
use Rattle.machine.specs.declared.reply.Answer.TheVariants.{Replied, Failed}
use Rattle.machine.specs.Machine.{after, Run, AnsweredOrIdle, world_after}

-- no event that was answered changed the world
abbrev pub AllKeep : World → List Event → List Answer → Type 0
AllKeep w (e ∷ es) (Replied r ∷ answers) = (after w e ≡ w) × AllKeep (after w e) es answers
AllKeep w (e ∷ es) (Failed fault ∷ answers) = AllKeep w es answers
AllKeep w es answers = Unit {0}

-- some answered event changed the world, and each event after it was answered or would have changed nothing
abbrev pub Settles : World → List Event → List Answer → Type 0
Settles w (e ∷ es) (Replied r ∷ answers) = ((after w e ≢ w) × AnsweredOrIdle (after w e) es answers)
    ⊎ Settles (after w e) es answers
Settles w (e ∷ es) (Failed fault ∷ answers) = Settles w es answers
Settles w es answers = ⊥

-- some event that met a fault would have led to this world, and no answered event after it changed the world
abbrev pub IsPending : World → List Event → List Answer → World → Type 0
IsPending w (e ∷ es) (Replied r ∷ answers) x = IsPending (after w e) es answers x
IsPending w (e ∷ es) (Failed fault ∷ answers) x = ((x ≡ after w e) × AllKeep w es answers) ⊎ IsPending w es answers x
IsPending w es answers x = ⊥

-- If a crash before the events left the first world or x, a crash after them leaves the world at the end or y: y may be
-- that world itself, a pending one, or x if no answered event changed the world.
abbrev pub MayLeave : World → List Event → List Answer → World → World → Type 0
MayLeave w events answers x y =
    (y ≡ world_after w events answers) ⊎ (IsPending w events answers y ⊎ ((y ≡ x) × AllKeep w events answers))

-- In this world, the events may get these answers, and lead to the world after those that were answered.
pub record RunsAt (old new : Shown) (w : World) (events : List Event) (answers : List Answer) : Type 0 where
  pub run : Run w events answers (world_after w events answers)
  pub ends : new.stands (world_after w events answers)
  -- if a crash left only this world before, and no event that would have changed the world met a fault, it leaves only
  -- the one at the end
  pub left : AnsweredOrIdle w events answers → old.leaves w w
      → new.leaves (world_after w events answers) (world_after w events answers)
  -- after an answered change, if no later change met a fault, a crash leaves only the world at the end, whatever it
  -- left before
  pub settled : Settles w events answers → new.leaves (world_after w events answers) (world_after w events answers)
  -- whatever events met a fault, a crash leaves the world at the end or one other
  pub beside : (x : World) → old.leaves w x
      → (y : World) × new.leaves (world_after w events answers) y × MayLeave w events answers x y

-- If the disks are honest, then in each world that the store stood for these answers to the events are those of a run.
pub record Runs (old new : Shown) (events : List Event) (answers : List Answer) : Type 0 where
  pub honest : new.is_honest → old.is_honest
  pub at : new.is_honest → (w : World) → old.stands w → RunsAt old new w events answers
