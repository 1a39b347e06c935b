-- The answer to a message does not depend on the shelves that its key does not see.
use Rattle.std.specs.Prelude.{◌≡◌, ◌≢◌, ℕ, List, ◌++◌, Option, Some, true, Result, Ok}
use Rattle.std.specs.Io.KnownBytes.{Appends}
use Rattle.histories.specs.Account.{Account, Gives, MayFollow}
use Rattle.framing.specs.Message.{MessageView, ReadsMessage}
use Rattle.machine.specs.declared.reply.Answer.TheVariants.{Replied}
use Rattle.world.specs.World.{World, IsWorld}
use Rattle.machine.specs.Machine.{request_reply, after_request}
use Rattle.machine.specs.Isolation.{sees, belongs, key_of, Low}
use Rattle.world.specs.Store.{Shown}
use Rattle.engine.specs.Request.{request_of}
use Rattle.engine.specs.Reply.{bytes_of}
use Rattle.engine.specs.declared.fault.Io.{Io}

-- The bytes written are those of the machine's reply in the world x, and the worlds after the message are the same to
-- s.
pub record IsAnsweredAlike
    (new : Shown) (written written_new : Option (List ℕ)) (m : MessageView) (w x : World) (s : List ℕ) : Type 0 where
  pub bytes : Appends written written_new (bytes_of m (Replied (request_reply x (request_of m))))
  pub stands : new.stands (after_request w (request_of m))
  pub low : Low (after_request w (request_of m)) (after_request x (request_of m)) s

-- If the key of the message belongs to a shelf that s sees, the message is answered alike from each world that the
-- store may stand for and each world x that is the same to s.
abbrev pub IsAnsweredByItsShelf : Shown → Shown → Option (List ℕ) → Option (List ℕ) → MessageView → Type 0
IsAnsweredByItsShelf old new written written_new m =
    new.is_honest → (w x : World) (s t k : List ℕ) → old.stands w → IsWorld x → Low w x s
    → sees w s t ≡ true → belongs w k t → key_of (request_of m) ≡ Some k
    → IsAnsweredAlike new written written_new m w x s

-- The first message is answered by its shelf alone, unless the answer is a 503.
abbrev pub AnswersByItsShelf :
    Shown → Shown → Option (List ℕ) → Option (List ℕ) → Option (List ℕ) → Result (Option ℕ) Io → Type 0
AnswersByItsShelf old new unread written written_new result =
    (input : List ℕ) (m : MessageView) (rest : List ℕ) (status : ℕ)
    → unread ≡ Some input → ReadsMessage input m rest → result ≡ Ok (Some status) → status ≢ 503
    → IsAnsweredByItsShelf old new written written_new m

-- So it is of the bytes that were heard, whatever may follow them.
abbrev pub AnswersHeardByItsShelf :
    Shown → Shown → Account → Account → Option (List ℕ) → Option (List ℕ) → Result (Option ℕ) Io → Type 0
AnswersHeardByItsShelf old new came came_new written written_new result =
    (bytes more : List ℕ) → Gives came came_new bytes → MayFollow came_new more
    → AnswersByItsShelf old new (Some (bytes ++ more)) written written_new result
