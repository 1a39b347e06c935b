-- One message to two stores whose worlds are the same to a shelf that sees the shelf of its key.
use Rattle.std.specs.Prelude.{◌≡◌, ◌≢◌, ℕ, List, Option, Some, true, Ok}
use Rattle.std.specs.Io.KnownBytes.{Appends}
use Rattle.framing.specs.Message.{MessageView, ReadsMessage}
use Rattle.world.specs.World.{World}
use Rattle.world.specs.Store.{Shown}
use Rattle.machine.specs.Machine.{after_request}
use Rattle.machine.specs.Isolation.{sees, belongs, key_of, Low}
use Rattle.engine.specs.Request.{request_of}
use Rattle.engine.specs.First.{ServesFirst}

-- Two calls of `answer_one`, one over a store that stood for w and one over a store that stood for x, each on an honest
-- disk. Both read this input, which begins with the message m. Its key belongs to a shelf that s sees, and w and x are
-- the same to s. Both returned these statuses.
pub record AreTwoAnswers
    (old new old_too new_too : Shown) (w x : World) (s : List ℕ) (m : MessageView)
    (written written_new written_too written_too_new : Option (List ℕ)) (status status_too : ℕ) : Type 0 where
  pub stands : old.stands w
  pub stands_too : old_too.stands x
  pub honest : new.is_honest
  pub honest_too : new_too.is_honest
  pub low : Low w x s
  pub shelf : List ℕ
  pub key : List ℕ
  pub sees_it : sees w s shelf ≡ true
  pub belongs_to_it : belongs w key shelf
  pub asks_with : key_of (request_of m) ≡ Some key
  pub input : List ℕ
  pub rest : List ℕ
  pub reads : ReadsMessage input m rest
  pub unread : Option (List ℕ)
  pub unread_too : Option (List ℕ)
  pub serves : ServesFirst old new (Some input) unread written written_new (Ok (Some status))
  pub serves_too : ServesFirst old_too new_too (Some input) unread_too written_too written_too_new
      (Ok (Some status_too))

-- Both wrote the same text and returned the same status. The stores stand for the worlds after the message, and these
-- are the same to s again.
pub record AnswerAlike
    (new new_too : Shown) (w x : World) (s : List ℕ) (m : MessageView)
    (written written_new written_too written_too_new : Option (List ℕ)) (status status_too : ℕ) : Type 0 where
  pub text : List ℕ
  pub wrote : Appends written written_new text
  pub wrote_too : Appends written_too written_too_new text
  pub statuses : status_too ≡ status
  pub stands : new.stands (after_request w (request_of m))
  pub stands_too : new_too.stands (after_request x (request_of m))
  pub low : Low (after_request w (request_of m)) (after_request x (request_of m)) s

-- Two such calls answer alike unless one of them wrote a 503.
abbrev pub TwoAnswersAreAlike : Shown → Shown → Shown → Shown → Type 0
TwoAnswersAreAlike old new old_too new_too =
    (w x : World) (s : List ℕ) (m : MessageView) (written written_new written_too written_too_new : Option (List ℕ))
    (status status_too : ℕ)
    → AreTwoAnswers old new old_too new_too w x s m written written_new written_too written_too_new status status_too
    → status ≢ 503 → status_too ≢ 503
    → AnswerAlike new new_too w x s m written written_new written_too written_too_new status status_too
