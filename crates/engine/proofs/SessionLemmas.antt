-- What `Session::answer_next` does, from what came.
use Rattle.std.proofs.Common.{◌≡◌, ℕ, List, [], ◌∷◌, Option, Result, Ok, Err, IfOk, sym, subst}
use Rattle.std.proofs.KnownBytes.{Keeps-refl}
use Rattle.histories.specs.Account.{Account}
use Rattle.framing.specs.Framing.{Framing, view}
use Rattle.framing.specs.declared.message.Message.{Message}
use Rattle.wire.specs.declared.reply.Fixed.{Fixed}
use Rattle.world.specs.Store.{Shown}
use Rattle.engine.specs.Exchange.{Exchange}
use Rattle.engine.specs.First.{Answers, Closes}
use Rattle.engine.specs.Reply.{page_bytes, page_status, page_to, text_of, status_of}
use Rattle.engine.specs.Served.{closing_bytes}
use Rattle.engine.specs.Store.{GoesThrough}
use Rattle.engine.specs.Session.{Comes, AnswersNext}
use Rattle.engine.specs.Written.{Writes}
use Rattle.engine.specs.declared.fault.Io.{Io}
use Rattle.engine.specs.declared.fault.Io.TheVariants as io
use Rattle.engine.specs.declared.next.MessageOrEnd.TheVariants as came
use Rattle.engine.specs.declared.page.Page.{Page}
use Rattle.engine.specs.declared.session.Handled.{Handled}
use Rattle.engine.specs.declared.session.Handled.TheVariants as handled
use Rattle.engine.proofs.NextLemmas.{message_next}
use Rattle.engine.proofs.StoreLemmas.{through_none}

module _ (u u' : Account) (w w' : Option (List ℕ)) (held held_new : Framing) (reads left : ℕ) where
  -- taking a message and writing its reply, or failing at it, is as `AnswersNext` says
  pub handled_message : (old new : Shown) (message : Message) (x : Exchange) (result : Result Handled Io)
      → x.message ≡ view message
      → Comes held held_new reads left u u' (Ok (came.Message message)) → GoesThrough old new (x ∷ [])
      → Writes w w' (text_of x) result → IfOk result (λ t. t ≡ handled.Answered (status_of x))
      → AnswersNext old new u u' w w' held held_new result
  handled_message old new message x (Ok t) same comes through writes is =
      (Answers x, message_next held held_new reads left u u' message x same comes, through, is, writes)
  handled_message old new message x (Err io.Read) same comes through (wrong, begun) is = cc
  handled_message old new message x (Err io.Write) same comes through (_, begun) is =
      (Answers x, message_next held held_new reads left u u' message x same comes, through, begun)

  -- taking a message and writing the page for it, or failing at it, is as `AnswersNext` says
  pub handled_page : (old new : Shown) (message : Message) (x : Exchange) (page : Page) (result : Result Handled Io)
      → x.message ≡ view message → Comes held held_new reads left u u' (Ok (came.Message message))
      → GoesThrough old new (x ∷ [])
      → page ≡ page_to x → Writes w w' (page_bytes page) result
      → IfOk result (λ t. t ≡ handled.Answered (page_status page))
      → AnswersNext old new u u' w w' held held_new result
  handled_page old new message x page result same comes through shown writes is = handled_message
      old new message x result same comes through (subst (λ (p : Page). Writes w w' (page_bytes p) result) shown writes)
      (subst (λ (p : Page). IfOk result (λ t. t ≡ handled.Answered (page_status p))) shown is)

  -- taking no message and closing the stream, or failing at it, is as `AnswersNext` says
  pub handled_end : (shown : Shown) (closing : Option Fixed) (result : Result Handled Io)
      → Comes held held_new reads left u u' (Ok (came.End closing)) → Writes w w' (closing_bytes closing) result
      → IfOk result (λ t. t ≡ handled.Closed closing) → AnswersNext shown shown u u' w w' held held_new result
  handled_end shown closing (Ok t) comes writes is = (Closes closing, comes, through_none shown, is, writes)
  handled_end shown closing (Err io.Read) comes (wrong, begun) is = cc
  handled_end shown closing (Err io.Write) comes (_, begun) is = (Closes closing, comes, through_none shown, begun)

-- a read that failed is as `AnswersNext` says
pub handled_unread : (shown : Shown) (u u' : Account) (w : Option (List ℕ)) (held held_new : Framing) (reads left : ℕ)
    (e : Io) (result : Result Handled Io)
    → Comes held held_new reads left u u' (Err e) → result ≡ Err e → AnswersNext shown shown u u' w w held held_new result
handled_unread shown u u' w held held_new reads left io.Read result (_, (bytes, consumed, waits)) is =
    subst (AnswersNext shown shown u u' w w held held_new) (sym is) (bytes, consumed, waits, through_none shown, Keeps-refl w)
handled_unread shown u u' w held held_new reads left io.Write result (wrong, _) is = cc
