-- Streams, and the bytes of their messages.
use Rattle.std.proofs.Common.{◌≡◌, ℕ, List, [], ◌∷◌, ◌++◌, refl, sym, ap, ◌∙◌, subst, append-nil}
use Rattle.std.specs.List.{concat}
use Rattle.std.proofs.lemmas.List.{append_assoc}
use Rattle.httparse.specs.Grammar.{print_request}
use Rattle.framing.specs.Message.{MessageView, ReadsMessage, ReadsMessages, End, Ends, IsStream}
use Rattle.framing.specs.Pieces.{IsMessage, AreMessages}
use Rattle.framing.proofs.StreamLemmas.{ReadsMessage-append, message_unique, no_message_at_end}

-- more bytes
pub ReadsMessages-append : (bytes : List ℕ) (messages : List MessageView) (rest more : List ℕ)
    → ReadsMessages bytes messages rest → ReadsMessages (bytes ++ more) messages (rest ++ more)
ReadsMessages-append bytes [] rest more e = ap (λ all. all ++ more) e
ReadsMessages-append bytes (m ∷ ms) rest more (after, first, others) =
    (after ++ more, ReadsMessage-append bytes more m after first, ReadsMessages-append after ms rest more others)

-- more messages
pub ReadsMessages-join : (bytes : List ℕ) (messages more : List MessageView) (between rest : List ℕ)
    → ReadsMessages bytes messages between → ReadsMessages between more rest
    → ReadsMessages bytes (messages ++ more) rest
ReadsMessages-join bytes [] more between rest e next = subst (λ all. ReadsMessages all more rest) (sym e) next
ReadsMessages-join bytes (m ∷ ms) more between rest (after, first, others) next =
    (after, first, ReadsMessages-join after ms more between rest others next)

-- ---- from the pieces to the stream

-- the bytes of messages, one after another, and a rest are read as these messages and the rest
pieces_read : (pieces : List (List ℕ)) (messages : List MessageView) (rest : List ℕ) → AreMessages pieces messages
    → ReadsMessages (concat pieces ++ rest) messages rest
pieces_read [] [] rest are = refl
pieces_read [] (m ∷ ms) rest are = absurd are
pieces_read (piece ∷ pieces) [] rest are = absurd are
pieces_read (piece ∷ pieces) (m ∷ ms) rest (first, others) = (
  concat pieces ++ rest,
  subst (λ all. ReadsMessage all m (concat pieces ++ rest)) (sym (append_assoc piece (concat pieces) rest))
      (ReadsMessage-append piece (concat pieces ++ rest) m [] first),
  pieces_read pieces ms rest others,
)

pub messages_make_a_stream : (pieces : List (List ℕ)) (messages : List MessageView) (rest : List ℕ) (end : End)
    → AreMessages pieces messages
    → Ends rest end → IsStream (concat pieces ++ rest) messages end
messages_make_a_stream pieces messages rest end are ends = (rest, pieces_read pieces messages rest are, ends)

-- ---- and back

-- the bytes of the message at the front
message_piece : (bytes : List ℕ) (m : MessageView) (rest : List ℕ) → ReadsMessage bytes m rest
    → (piece : List ℕ) × (bytes ≡ piece ++ rest) × IsMessage piece m
message_piece bytes m rest (h, n, x, small, long, is) =
    let front = print_request h in (
      front ++ m.body,
      x.reads.1 ∙ sym (append_assoc front m.body rest),
      (
        h,
        n,
        record { reads = (x.reads.0, ap (λ body. front ++ body) (sym (append-nil m.body))); good = x.good },
        small,
        long,
        is,
      ),
    )

-- bytes that are read as messages and a rest are the bytes of these messages, one after another, and the rest
pieces_of : (bytes : List ℕ) (messages : List MessageView) (rest : List ℕ) → ReadsMessages bytes messages rest
    → (pieces : List (List ℕ)) × (bytes ≡ concat pieces ++ rest) × AreMessages pieces messages
pieces_of bytes [] rest e = ([], e, tt)
pieces_of bytes (m ∷ ms) rest (after, first, others) =
    let one = message_piece bytes m after first in
    let more = pieces_of after ms rest others in (
      one.0 ∷ more.0,
      one.1 ∙ ap (λ all. one.0 ++ all) more.1 ∙ sym (append_assoc one.0 (concat more.0) rest),
      (one.2, more.2),
    )

pub a_stream_is_made_of_messages : (bytes : List ℕ) (messages : List MessageView) (end : End)
    → IsStream bytes messages end
    → (pieces : List (List ℕ)) × (rest : List ℕ) × (bytes ≡ concat pieces ++ rest) × AreMessages pieces messages
    × Ends rest end
a_stream_is_made_of_messages bytes messages end (rest, reads, ends) =
    let made = pieces_of bytes messages rest reads in (made.0, rest, made.1, made.2, ends)

-- ---- what stands at the front of a stream

-- messages that stand there are the first of its messages
pub stream_begins : (bytes : List ℕ) (front messages : List MessageView) (rest : List ℕ) (end : End)
    → ReadsMessages bytes front rest
    → IsStream bytes messages end → (more : List MessageView) × (messages ≡ front ++ more)
stream_begins bytes [] messages rest end e stream = (messages, refl)
stream_begins bytes (a ∷ as') [] rest end (after, first, others) (last, e, ends) =
    absurd (no_message_at_end last end ends a after (subst (λ all. ReadsMessage all a after) e first))
stream_begins bytes (a ∷ as') (b ∷ bs) rest end (after, first, others) (last, (behind, again, next), ends) =
    let same = message_unique bytes a b after behind first again in
    let more = stream_begins after as' bs rest end others
    (last, subst (λ all. ReadsMessages all bs last) (sym same.1) next, ends) in
    (more.0, λ i. sym same.0 i ∷ more.1 i)

-- ---- a message that is taken out

-- what follows the first messages of a stream is the stream of the others
stream_after : (bytes : List ℕ) (before more : List MessageView) (rest : List ℕ) (end : End)
    → ReadsMessages bytes before rest
    → IsStream bytes (before ++ more) end → IsStream rest more end
stream_after bytes [] more rest end e stream = subst (λ all. IsStream all more end) e stream
stream_after bytes (m ∷ ms) more rest end (after, first, others) (last, (behind, again, next), ends) =
    let same = message_unique bytes m m behind after again first in
    stream_after after ms more rest end others
    (last, subst (λ all. ReadsMessages all (ms ++ more) last) same.1 next, ends)

pub a_message_may_be_taken_out : (front bytes back : List ℕ) (before after : List MessageView) (message : MessageView)
    (end : End)
    → ReadsMessages front before [] → IsMessage bytes message
    → IsStream (front ++ (bytes ++ back)) (before ++ message ∷ after) end
    → IsStream (front ++ back) (before ++ after) end
a_message_may_be_taken_out front bytes back before after message end first is stream =
    let at = stream_after (front ++ (bytes ++ back)) before (message ∷ after) (bytes ++ back) end
    (ReadsMessages-append front before [] (bytes ++ back) first) stream in
    let left = stream_after (bytes ++ back) (message ∷ []) after back end
    (back, ReadsMessage-append bytes back message [] is, refl) at in (
      left.0,
      ReadsMessages-join (front ++ back) before after back left.0
          (ReadsMessages-append front before [] back first) left.1,
      left.2,
    )
