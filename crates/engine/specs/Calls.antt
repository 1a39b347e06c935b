-- Two calls that answer one stream, the second without the bytes of others' messages.
use Rattle.std.specs.Prelude.{◌≡◌, ◌≢◌, ◌⊎◌, ℕ, List, [], ◌++◌, Bool, Option, Some, map, Result, Ok}
use Rattle.std.specs.List.{concat, AllByRecursion}
use Rattle.framing.specs.Message.{MessageView, End, clean, too_large, bad, Ends}
use Rattle.framing.specs.Pieces.{AreMessages}
use Rattle.wire.specs.Reply.{fixed_bytes}
use Rattle.wire.specs.declared.reply.Fixed.TheVariants.{TooLarge, BadRequest, Unavailable}
use Rattle.world.specs.Store.{Shown}
use Rattle.world.specs.World.{World, chain}
use Rattle.machine.specs.declared.request.Event.{Event}
use Rattle.machine.specs.declared.reply.Answer.{Answer}
use Rattle.machine.specs.Isolation.{remaining, marked, Agree}
use Rattle.machine.specs.Machine.{Run}
use Rattle.engine.specs.Request.{event_of_message}
use Rattle.engine.specs.Exchange.{Exchange, message_of}
use Rattle.engine.specs.Headline.{unavailable}
use Rattle.engine.specs.Reply.{text_of}
use Rattle.engine.specs.Served.{Serves}
use Rattle.engine.specs.declared.fault.Io.{Io}

-- none of the texts is the 503
abbrev pub NoneUnavailable : List (List ℕ) → Type 0
NoneUnavailable texts = AllByRecursion (λ text. text ≢ unavailable) texts

-- which messages of a stream remain for these shelves: all but those whose key belongs, at that moment, to another
-- shelf
abbrev pub remaining_for : World → List (List ℕ) → List MessageView → List Bool
remaining_for w ss messages = remaining w ss (map event_of_message messages)

-- the bytes written at the end of a stream: none, the 413, or the 400
abbrev pub end_bytes : End → List ℕ
end_bytes clean = []
end_bytes too_large = fixed_bytes TooLarge
end_bytes bad = fixed_bytes BadRequest

-- Two calls of `answer_all` over stores whose worlds agreed on these shelves, each on an honest disk. The stream is
-- these messages, the bytes of each a piece, and then a rest with this end. One call read all of it, and the other all
-- but the pieces of others' messages.
pub record AreTwoCalls
    (old new old_too new_too : Shown) (w x : World) (ss : List (List ℕ)) (messages : List MessageView) (end : End)
    (result result_too : Result (Unit {0}) Io) : Type 0 where
  pub stands : old.stands w
  pub stands_too : old_too.stands x
  pub agree : Agree w x ss
  pub honest : new.is_honest
  pub honest_too : new_too.is_honest
  pub pieces : List (List ℕ)
  pub rest : List ℕ
  pub are : AreMessages pieces messages
  pub ends : Ends rest end
  pub unread : Option (List ℕ)
  pub unread_too : Option (List ℕ)
  pub written : Option (List ℕ)
  pub written_new : Option (List ℕ)
  pub written_too : Option (List ℕ)
  pub written_too_new : Option (List ℕ)
  pub full : Serves old new (Some (concat pieces ++ rest)) unread written written_new result
  pub purged :
      Serves old_too new_too (Some (concat (marked (remaining_for w ss messages) pieces) ++ rest)) unread_too
      written_too written_too_new result_too

-- Two calls, one for these messages and one for the marked ones, wrote an equal text for each message and equal bytes
-- for the end. The stores stand for worlds that agree again on these shelves.
pub record WriteAlike
    (new new_too : Shown) (ss : List (List ℕ)) (messages : List MessageView) (marks : List Bool)
    (end : End) (one two : List Exchange) (out out_too : List ℕ) : Type 0 where
  pub all : map message_of one ≡ messages
  pub left : map message_of two ≡ marked marks messages
  pub texts : map text_of two ≡ marked marks (map text_of one)
  pub wrote : out ≡ concat (map text_of one) ++ end_bytes end
  pub wrote_too : out_too ≡ concat (marked marks (map text_of one)) ++ end_bytes end
  pub world : World
  pub world_too : World
  pub stands : new.stands world
  pub stands_too : new_too.stands world_too
  pub agree : Agree world world_too ss

-- If two calls both ended well, and neither wrote the 503 in place of what was left or for a remaining message, they
-- wrote alike. The shelves are those that s sees now or after any events to come, which may add it to a group, so that
-- calls with registry commands between them may follow each other.
abbrev pub CallsTellAlike : Shown → Shown → Shown → Shown → Type 0
CallsTellAlike old new old_too new_too =
    (w x later : World) (s : List ℕ) (events : List Event) (answers : List Answer) (messages : List MessageView)
    (end : End)
    → Run w events answers later
    → (calls : AreTwoCalls old new old_too new_too w x (chain later s) messages end (Ok tt) (Ok tt))
    → let marks : List Bool = remaining_for w (chain later s) messages in
    calls.full.ends.1.0 ≢ Some Unavailable → calls.purged.ends.1.0 ≢ Some Unavailable
    → NoneUnavailable (marked marks (map text_of calls.full.exchanges))
    → NoneUnavailable (map text_of calls.purged.exchanges)
    → WriteAlike new new_too (chain later s) messages marks end calls.full.exchanges calls.purged.exchanges
    calls.full.out calls.purged.out

-- one list begins with the other
abbrev pub AgreeAsFar : List (List ℕ) → List (List ℕ) → Type 0
AgreeAsFar one two = (more : List (List ℕ)) × ((one ≡ two ++ more) ⊎ (two ≡ one ++ more))

-- However two calls ended, by a failed read or write or by the 503 in place of what was left: if none of the texts
-- written for the remaining messages is the 503, those of one call begin with those of the other.
abbrev pub CallsTellAlikeAsFar : Shown → Shown → Shown → Shown → Type 0
CallsTellAlikeAsFar old new old_too new_too =
    (w x later : World) (s : List ℕ) (events : List Event) (answers : List Answer)
    (messages : List MessageView) (end : End) (result result_too : Result (Unit {0}) Io)
    → Run w events answers later
    → (calls : AreTwoCalls old new old_too new_too w x (chain later s) messages end result result_too)
    → let marks : List Bool = remaining_for w (chain later s) messages in
    NoneUnavailable (marked marks (map text_of calls.full.exchanges))
    → NoneUnavailable (map text_of calls.purged.exchanges)
    → AgreeAsFar (marked marks (map text_of calls.full.exchanges)) (map text_of calls.purged.exchanges)
