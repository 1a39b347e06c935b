-- Two calls that answer one stream, the second without the bytes of others' messages.
use Rattle.std.proofs.Common.{◌≡◌, ◌≢◌, ◌⊎◌, ℕ, List, [], ◌∷◌, ◌++◌, Bool, true, false, Option, Some, None, Result, Ok}
use Rattle.std.proofs.Common.{Err, refl, ◌∙◌, sym, ap, subst, inl, inr, append-nil}
use Rattle.std.specs.Prelude.{map}
use Rattle.std.specs.List.{concat}
use Rattle.framing.specs.Message.{MessageView, ReadsMessages, End, clean, too_large, bad, Ends, IsStream}
use Rattle.framing.specs.Pieces.{AreMessages}
use Rattle.wire.specs.declared.reply.Fixed.{Fixed}
use Rattle.wire.specs.declared.reply.Fixed.TheVariants.{TooLarge, BadRequest, Unavailable}
use Rattle.framing.proofs.PieceLemmas.{ReadsMessages-append, messages_make_a_stream, stream_begins}
use Rattle.framing.proofs.StreamLemmas.{stream_unique}
use Rattle.world.specs.Store.{Shown}
use Rattle.world.specs.World.{World, IsWorld, chain}
use Rattle.machine.specs.Machine.{Run}
use Rattle.machine.specs.Isolation.{remaining, marked, Agree}
use Rattle.machine.specs.Parts.{AllRequested}
use Rattle.machine.proofs.Chains.{Later}
use Rattle.machine.proofs.Isolated.{ends_later}
use Rattle.machine.proofs.Parts.{later_than_asked}
use Rattle.engine.specs.Exchange.{Exchange, message_of, event_of, answer_of}
use Rattle.engine.specs.Reply.{text_of}
use Rattle.engine.specs.Store.{world_at}
use Rattle.engine.specs.Served.{IsClosing, closing_bytes, texts_of, Ended, Serves}
use Rattle.engine.specs.Calls.{NoneUnavailable, remaining_for, end_bytes, CallsTellAlike, AgreeAsFar}
use Rattle.engine.specs.Calls.{CallsTellAlikeAsFar}
use Rattle.engine.specs.declared.fault.Io.{Io}
use Rattle.engine.specs.declared.fault.Io.TheVariants as io
use Rattle.engine.proofs.FrontLemmas.{run_front, none_front, texts_front, marks_front, remaining_front, GoesAsFar}
use Rattle.engine.proofs.FrontLemmas.{EndsBefore, either_ends}
use Rattle.engine.proofs.PurgedLemmas.{remaining_messages, remaining_texts, events_are, exchanges_alike}

-- ---- the stream without some pieces

marked_messages : (marks : List Bool) (pieces : List (List ℕ)) (messages : List MessageView)
    → AreMessages pieces messages
    → AreMessages (marked marks pieces) (marked marks messages)
marked_messages [] pieces messages are = tt
marked_messages (mark ∷ marks) [] (m ∷ ms) are = absurd are
marked_messages (mark ∷ marks) (piece ∷ pieces) [] are = absurd are
marked_messages (true ∷ marks) [] [] are = tt
marked_messages (false ∷ marks) [] [] are = tt
marked_messages (true ∷ marks) (piece ∷ pieces) (m ∷ ms) are = (are.0, marked_messages marks pieces ms are.1)
marked_messages (false ∷ marks) (piece ∷ pieces) (m ∷ ms) are = marked_messages marks pieces ms are.1

-- ---- a call that came to the end

-- the end of a stream that was not closed by the 503 determines the bytes that closed it
closed : (rest : List ℕ) (closing : Option Fixed) → IsClosing rest closing → closing ≢ Some Unavailable
    → (end : End) × Ends rest end × (closing_bytes closing ≡ end_bytes end)
closed rest None closes other = (clean, closes, refl)
closed rest (Some TooLarge) closes other = (too_large, closes, refl)
closed rest (Some BadRequest) closes other = (bad, closes, refl)
closed rest (Some Unavailable) closes other = absurd (other refl)
closed rest (Some f) closes other = absurd closes

texts_joined : (xs : List Exchange) → texts_of xs ≡ concat (map text_of xs)
texts_joined [] = refl
texts_joined (x ∷ xs) = ap (λ texts. text_of x ++ texts) (texts_joined xs)

-- a call answered each message of the stream
record CameToTheEnd (messages : List MessageView) (end : End) (xs : List Exchange) (out : List ℕ) : Type 0 where
  all : map message_of xs ≡ messages
  wrote : out ≡ concat (map text_of xs) ++ end_bytes end

-- a call that returned `Ok` and did not close with the 503 answered each message of its stream
came_to_the_end : (old new : Shown) (bytes : List ℕ) (unread written written_new : Option (List ℕ))
    (messages : List MessageView) (end : End)
    → IsStream bytes messages end → (call : Serves old new (Some bytes) unread written written_new (Ok tt))
    → call.ends.1.0 ≢ Some Unavailable → CameToTheEnd messages end call.exchanges call.out
came_to_the_end old new bytes unread written written_new messages end stream call other =
    let at = closed call.rest call.ends.1.0 call.ends.1.1 other in
    let reads = subst (λ all. ReadsMessages all (map message_of call.exchanges) call.rest) call.ends.0 call.reads in
    let same = stream_unique bytes (map message_of call.exchanges) messages at.0 end (call.rest, reads, at.1) stream in
    record {
      all = same.0;
      wrote = call.ends.1.2
          ∙ ap (λ texts. texts ++ closing_bytes call.ends.1.0) (texts_joined call.exchanges)
          ∙ ap (λ last. concat (map text_of call.exchanges) ++ last) (at.2 ∙ ap end_bytes same.1);
    }

-- the marks of a whole stream leave the same texts of its first exchanges as the marks of these
texts_remaining : (w : World) (ss : List (List ℕ)) (messages : List MessageView) (xs : List Exchange)
    (left : List MessageView)
    → messages ≡ map message_of xs ++ left
    → marked (remaining_for w ss messages) (map text_of xs) ≡ remaining_texts w ss xs
texts_remaining w ss messages xs left is =
    ap (λ ms. marked (remaining_for w ss ms) (map text_of xs)) is ∙ marks_front w ss xs left

messages_remaining : (w : World) (ss : List (List ℕ)) (messages : List MessageView) (xs : List Exchange)
    → map message_of xs ≡ messages
    → marked (remaining_for w ss messages) messages ≡ remaining_messages w ss xs
messages_remaining w ss messages xs is =
    ap (λ ms. marked (remaining_for w ss ms) ms) (sym is)
    ∙ ap (λ es. marked (remaining w ss es) (map message_of xs)) (sym (events_are xs))

all_requested : (xs : List Exchange) → AllRequested (map event_of xs)
all_requested [] = tt
all_requested (x ∷ xs) = all_requested xs

-- two calls wrote the same texts for the remaining messages, and their worlds agree, by what s sees in a later world
-- than the first;
-- a stream has no registry command, so what s sees does not change within it
calls_alike : (w x one two later : World) (s : List ℕ) (full purged : List Exchange) → IsWorld w → Later w later
    → Agree w x (chain later s)
    → Run w (map event_of full) (map answer_of full) one → Run x (map event_of purged) (map answer_of purged) two
    → map message_of purged ≡ remaining_messages w (chain later s) full
    → NoneUnavailable (remaining_texts w (chain later s) full) → NoneUnavailable (map text_of purged)
    → (map text_of purged ≡ remaining_texts w (chain later s) full) × Agree one two (chain later s)
calls_alike w x one two later s full purged is then agree run again same others none =
    exchanges_alike w x one two later s full purged is
    (later_than_asked w one later (map event_of full) (map answer_of full) (all_requested full) run then) agree run
    again same others none

-- two calls that both came to the end of their streams wrote alike
pub calls_tell_alike : (old new old_too new_too : Shown) → ((w : World) → old.stands w → IsWorld w)
    → CallsTellAlike old new old_too new_too
calls_tell_alike old new old_too new_too sound w x later s events answers messages end leads calls other other_too
    others none =
    let ss : List (List ℕ) = chain later s in
    let marks : List Bool = remaining_for w ss messages in
    let full = calls.full in
    let purged = calls.purged in
    let first = came_to_the_end old new (concat calls.pieces ++ calls.rest) _ _ _ messages end
    (messages_make_a_stream calls.pieces messages calls.rest end calls.are calls.ends) full other in
    let second = came_to_the_end old_too new_too (concat (marked marks calls.pieces) ++ calls.rest) _ _ _
    (marked marks messages) end
    (messages_make_a_stream (marked marks calls.pieces) (marked marks messages) calls.rest end
    (marked_messages marks calls.pieces messages calls.are) calls.ends) purged other_too in
    let remaining_alike = texts_remaining w ss messages full.exchanges []
    (sym first.all ∙ sym (append-nil (map message_of full.exchanges))) in
    let run = full.through.runs.at calls.honest w calls.stands in
    let again = purged.through.runs.at calls.honest_too x calls.stands_too in
    let is = sound w calls.stands in
    let alike = calls_alike w x _ _ later s full.exchanges purged.exchanges is
    (ends_later w later events answers is leads) calls.agree run.run again.run
    (second.all ∙ messages_remaining w ss messages full.exchanges first.all)
    (subst NoneUnavailable remaining_alike others) none in
    let same = alike.0 ∙ sym remaining_alike in
    record {
      all = first.all;
      left = second.all;
      texts = same;
      wrote = first.wrote;
      wrote_too = second.wrote ∙ ap (λ texts. concat texts ++ end_bytes end) same;
      world = world_at w full.exchanges;
      world_too = world_at x purged.exchanges;
      stands = run.ends;
      stands_too = again.ends;
      agree = alike.1;
    }

-- ---- as far as both went

-- the stream of a call begins with the input that it answered
input_begins : (bytes : List ℕ) (unread : Option (List ℕ)) (xs : List Exchange) (input rest out : List ℕ)
    (result : Result (Unit {0}) Io)
    → Ended (Some bytes) unread xs input rest out result → (more : List ℕ) × (bytes ≡ input ++ more)
input_begins bytes unread xs input rest out (Ok u) (tells, closing) = ([], sym tells ∙ sym (append-nil input))
input_begins bytes None xs input rest out (Err io.Read) (consumed, waits, is) = absurd consumed
input_begins bytes (Some left) xs input rest out (Err io.Read) (consumed, waits, is) = (left, consumed)
input_begins bytes unread xs input rest out (Err io.Write) (tells, broken) = ([], sym tells ∙ sym (append-nil input))

-- the messages that a call answered are the first of its stream
first_messages : (old new : Shown) (bytes : List ℕ) (unread written written_new : Option (List ℕ))
    (result : Result (Unit {0}) Io)
    (messages : List MessageView) (end : End) → IsStream bytes messages end
    → (call : Serves old new (Some bytes) unread written written_new result)
    → (left : List MessageView) × (messages ≡ map message_of call.exchanges ++ left)
first_messages old new bytes unread written written_new result messages end stream call =
    let begins = input_begins bytes unread call.exchanges call.input call.rest call.out result call.ends in
    let reads = ReadsMessages-append call.input (map message_of call.exchanges) call.rest begins.0 call.reads in
    stream_begins bytes (map message_of call.exchanges) messages (call.rest ++ begins.0) end
    (subst (λ all. ReadsMessages all (map message_of call.exchanges) (call.rest ++ begins.0)) (sym begins.1) reads)
    stream

-- whichever of two calls ended first, the texts of one begin with those of the other
as_far : (w x one two later : World) (s : List ℕ) → IsWorld w → Later w later → Agree w x (chain later s)
    → (full purged : List Exchange)
    → Run w (map event_of full) (map answer_of full) one → Run x (map event_of purged) (map answer_of purged) two
    → NoneUnavailable (remaining_texts w (chain later s) full) → NoneUnavailable (map text_of purged)
    → GoesAsFar w (chain later s) full purged ⊎ EndsBefore w (chain later s) full purged
    → AgreeAsFar (remaining_texts w (chain later s) full) (map text_of purged)
as_far w x one two later s is then agree full purged run again others none (inl (front, more, cut, same)) =
    let all = ap (map text_of) cut ∙ texts_front front more in
    let short = run_front x two front more (subst (λ xs. Run x (map event_of xs) (map answer_of xs) two) cut again) in
    let alike = calls_alike w x one short.0 later s full front is then agree run short.1 same others
    (none_front (map text_of front) (map text_of more) (subst NoneUnavailable all none)) in
    (map text_of more, inr (all ∙ ap (λ texts. texts ++ map text_of more) alike.0))
as_far w x one two later s is then agree full purged run again others none (inr (front, more, cut, same)) =
    let ss : List (List ℕ) = chain later s in
    let remaining_so = remaining_front w ss front more in
    let all = ap (remaining_texts w ss) cut ∙ remaining_so.1 in
    let short = run_front w one front more (subst (λ xs. Run w (map event_of xs) (map answer_of xs) one) cut run) in
    let alike = calls_alike w x short.0 two later s front purged is then agree short.1 again same
    (none_front (remaining_texts w ss front) remaining_so.0 (subst NoneUnavailable all others)) none in
    (remaining_so.0, inl (all ∙ ap (λ texts. texts ++ remaining_so.0) (sym alike.0)))

-- however two calls ended, they wrote the same texts for the remaining messages as far as both went
pub calls_tell_alike_as_far : (old new old_too new_too : Shown) → ((w : World) → old.stands w → IsWorld w)
    → CallsTellAlikeAsFar old new old_too new_too
calls_tell_alike_as_far old new old_too new_too sound w x later s events answers messages end result result_too leads
    calls others none =
    let ss : List (List ℕ) = chain later s in
    let marks : List Bool = remaining_for w ss messages in
    let full = calls.full in
    let purged = calls.purged in
    let first = first_messages old new (concat calls.pieces ++ calls.rest) _ _ _ result messages end
    (messages_make_a_stream calls.pieces messages calls.rest end calls.are calls.ends) full in
    let second = first_messages old_too new_too (concat (marked marks calls.pieces) ++ calls.rest) _ _ _ result_too
    (marked marks messages) end
    (messages_make_a_stream (marked marks calls.pieces) (marked marks messages) calls.rest end
    (marked_messages marks calls.pieces messages calls.are) calls.ends) purged in
    let cut = either_ends w ss full.exchanges purged.exchanges first.0 second.0
    (ap (λ ms. marked (remaining_for w ss ms) ms) (sym first.1) ∙ second.1) in
    let same = texts_remaining w ss messages full.exchanges first.0 first.1 in
    let run = full.through.runs.at calls.honest w calls.stands in
    let again = purged.through.runs.at calls.honest_too x calls.stands_too in
    let is = sound w calls.stands in
    subst (λ texts. AgreeAsFar texts (map text_of purged.exchanges)) (sym same)
    (as_far w x _ _ later s is (ends_later w later events answers is leads) calls.agree full.exchanges purged.exchanges
    run.run again.run (subst NoneUnavailable same others) none cut)
