-- A message, and its outcome.
use Rattle.framing.specs.Message.{MessageView}
use Rattle.machine.specs.declared.request.Event.{Event}
use Rattle.machine.specs.declared.reply.Answer.{Answer}
use Rattle.machine.specs.declared.reply.Answer.TheVariants.{Replied, Failed}
use Rattle.machine.specs.declared.reply.Reply.{Reply}
use Rattle.world.specs.declared.registry.StoreFault.{StoreFault}
use Rattle.world.specs.declared.registry.StoreFault.TheVariants.{Memory}
use Rattle.engine.specs.Request as spec

-- the outcome of a message
pub data Outcome : Type 0 where
  -- memory ran out outside the store: before the machine saw what the message asks, or for the body of the reply
  Unserved : Outcome
  -- the store met a fault
  Met : StoreFault → Outcome
  -- the machine replied
  Served : Reply → Outcome

-- the machine's answer: running out of memory outside the store counts as a fault that changes nothing
abbrev pub answer_to : Outcome → Answer
answer_to Unserved = Failed Memory
answer_to (Met fault) = Failed fault
answer_to (Served reply) = Replied reply

-- a message and its outcome
pub record Exchange : Type 0 where
  pub message : MessageView
  pub outcome : Outcome

abbrev pub message_of : Exchange → MessageView
message_of x = x.message

abbrev pub event_of : Exchange → Event
event_of x = spec.event_of_message x.message

abbrev pub answer_of : Exchange → Answer
answer_of x = answer_to x.outcome

-- the store met no fault
abbrev pub IsUnmet : Outcome → Type 0
IsUnmet Unserved = Unit {0}
IsUnmet (Met fault) = ⊥
IsUnmet (Served reply) = Unit {0}
