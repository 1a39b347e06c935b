-- An event that came as a message or as a registry command, and its answer.
use Rattle.std.specs.Prelude.{ℕ, List, [], ◌∷◌}
use Rattle.framing.specs.Message.{MessageView}
use Rattle.machine.specs.declared.request.Event.{Event}
use Rattle.machine.specs.declared.reply.Answer.{Answer}
use Rattle.machine.specs.declared.reply.Answer.TheVariants.{Replied, Failed}
use Rattle.engine.specs.Request as spec
use Rattle.engine.specs.Reply.{bytes_of}

-- what an event came as: a message or a registry command
pub data EventOrigin : Type 0 where
  Message : MessageView → EventOrigin
  Command : Event → EventOrigin

-- an event by what it came as, and its answer
pub record AnsweredEvent : Type 0 where
  pub origin : EventOrigin
  pub answer : Answer

abbrev pub event_in : EventOrigin → Event
event_in (Message m) = spec.event_of_message m
event_in (Command e) = e

-- the text that is written for an event that came so: none for a command
abbrev pub text_in : EventOrigin → Answer → List ℕ
text_in (Message m) a = bytes_of m a
text_in (Command e) a = []

abbrev pub origin_of : AnsweredEvent → EventOrigin
origin_of h = h.origin

abbrev pub event_at : AnsweredEvent → Event
event_at h = event_in h.origin

abbrev pub answer_at : AnsweredEvent → Answer
answer_at h = h.answer

abbrev pub text_at : AnsweredEvent → List ℕ
text_at h = text_in h.origin h.answer

-- puts an answered event before others if this answer is a reply
abbrev pub if_faultless : AnsweredEvent → Answer → List AnsweredEvent → List AnsweredEvent
if_faultless h (Replied r) hs = h ∷ hs
if_faultless h (Failed fault) hs = hs

-- the events that met no fault: messages that were not answered 503, and commands that were done or refused
abbrev pub faultless : List AnsweredEvent → List AnsweredEvent
faultless [] = []
faultless (h ∷ hs) = if_faultless h h.answer (faultless hs)
