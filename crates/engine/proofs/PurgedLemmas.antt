-- The exchanges of a run, and those that remain of them, if none of the remaining ones was answered by the 503.
use Rattle.std.proofs.Common.{◌≡◌, ◌≢◌, ℕ, List, [], ◌∷◌, Bool, true, false, refl, ◌∙◌, sym, ap, subst}
use Rattle.std.specs.Prelude.{map}
use Rattle.framing.specs.Message.{MessageView}
use Rattle.world.specs.World.{World, IsWorld, chain}
use Rattle.machine.specs.declared.reply.Answer.{Answer}
use Rattle.machine.specs.declared.reply.Answer.TheVariants.{Replied, Failed}
use Rattle.machine.specs.Machine.{Run, after}
use Rattle.machine.specs.Isolation.{is_remaining, remaining, marked, Agree, IsAnsweredIfItRemains, RemainingAnswered}
use Rattle.machine.specs.Isolation.{IsReplied, AllReplied}
use Rattle.machine.proofs.Chains.{Later}
use Rattle.machine.proofs.Isolated.{purged_runs_agree_so_far}
use Rattle.engine.specs.Request as spec
use Rattle.engine.specs.Calls.{NoneUnavailable}
use Rattle.engine.specs.Exchange.{Exchange, message_of, event_of, answer_of}
use Rattle.engine.specs.Headline.{unavailable}
use Rattle.engine.specs.Reply.{bytes_of, text_of}

-- which of the exchanges remain, their messages, and their texts
abbrev pub which_remain : World → List (List ℕ) → List Exchange → List Bool
which_remain w ss exchanges = remaining w ss (map event_of exchanges)

abbrev pub remaining_messages : World → List (List ℕ) → List Exchange → List MessageView
remaining_messages w ss exchanges = marked (which_remain w ss exchanges) (map message_of exchanges)

abbrev pub remaining_texts : World → List (List ℕ) → List Exchange → List (List ℕ)
remaining_texts w ss exchanges = marked (which_remain w ss exchanges) (map text_of exchanges)

-- the texts for messages with these answers
abbrev texts_for : List MessageView → List Answer → List (List ℕ)
texts_for (m ∷ ms) (a ∷ answers) = bytes_of m a ∷ texts_for ms answers
texts_for ms answers = []

pub events_are : (xs : List Exchange) → map event_of xs ≡ map spec.event_of_message (map message_of xs)
events_are [] = refl
events_are (x ∷ xs) = ap (λ es. event_of x ∷ es) (events_are xs)

texts_are : (xs : List Exchange) → map text_of xs ≡ texts_for (map message_of xs) (map answer_of xs)
texts_are [] = refl
texts_are (x ∷ xs) = ap (λ ts. text_of x ∷ ts) (texts_are xs)

marked_events : (marks : List Bool) (ms : List MessageView)
    → marked marks (map spec.event_of_message ms) ≡ map spec.event_of_message (marked marks ms)
marked_events [] ms = refl
marked_events (true ∷ marks) [] = refl
marked_events (false ∷ marks) [] = refl
marked_events (true ∷ marks) (m ∷ ms) = ap (λ es. spec.event_of_message m ∷ es) (marked_events marks ms)
marked_events (false ∷ marks) (m ∷ ms) = marked_events marks ms

marked_texts : (marks : List Bool) (xs : List Exchange)
    → marked marks (map text_of xs) ≡ texts_for (marked marks (map message_of xs)) (marked marks (map answer_of xs))
marked_texts [] xs = refl
marked_texts (true ∷ marks) [] = refl
marked_texts (false ∷ marks) [] = refl
marked_texts (true ∷ marks) (x ∷ xs) = ap (λ ts. text_of x ∷ ts) (marked_texts marks xs)
marked_texts (false ∷ marks) (x ∷ xs) = marked_texts marks xs

-- a message that was not answered by the 503 got a reply
answered : (m : MessageView) (a : Answer) → bytes_of m a ≢ unavailable → IsAnsweredIfItRemains true a
answered m (Replied r) other = tt
answered m (Failed fault) other = absurd (other refl)

-- if no remaining text is the 503, each remaining message was answered
remaining_answered : (w : World) (ss : List (List ℕ)) (xs : List Exchange) → NoneUnavailable (remaining_texts w ss xs)
    → RemainingAnswered w ss (map event_of xs) (map answer_of xs)
remaining_answered w ss [] none = tt
remaining_answered w ss (x ∷ xs) none =
    let next : World = after w (event_of x) in
    elim (is_remaining w ss (event_of x))
    as (λ b. NoneUnavailable (marked (b ∷ which_remain next ss xs) (text_of x ∷ map text_of xs))
    → IsAnsweredIfItRemains b (answer_of x) × RemainingAnswered next ss (map event_of xs) (map answer_of xs)) [
      | true ↦ λ n. (answered x.message (answer_of x) n.0, remaining_answered next ss xs n.1)
      | false ↦ λ n. (tt, remaining_answered next ss xs n)
    ] none

replied : (m : MessageView) (a : Answer) → bytes_of m a ≢ unavailable → IsReplied a
replied m (Replied r) other = tt
replied m (Failed fault) other = absurd (other refl)

all_replied : (xs : List Exchange) → NoneUnavailable (map text_of xs) → AllReplied (map answer_of xs)
all_replied [] none = tt
all_replied (x ∷ xs) none = (replied x.message (answer_of x) none.0, all_replied xs none.1)

-- Two runs from worlds that agree, one over all messages and one over the remaining ones, write the same texts for the
-- remaining ones if
-- none of these is the 503, and the worlds after both agree. A later world says what s sees, and so what remains.
pub exchanges_alike : (old old_too new new_too later : World) (s : List ℕ) (full purged : List Exchange) → IsWorld old
    → Later new later → Agree old old_too (chain later s)
    → Run old (map event_of full) (map answer_of full) new
    → Run old_too (map event_of purged) (map answer_of purged) new_too
    → map message_of purged ≡ remaining_messages old (chain later s) full
    → NoneUnavailable (remaining_texts old (chain later s) full) → NoneUnavailable (map text_of purged)
    → (map text_of purged ≡ remaining_texts old (chain later s) full) × Agree new new_too (chain later s)
exchanges_alike old old_too new new_too later s full purged is then agree run again same others none =
    let marks : List Bool = which_remain old (chain later s) full in
    let events : map event_of purged ≡ marked marks (map event_of full) =
    events_are purged ∙ ap (λ ms. map spec.event_of_message ms) same ∙ sym (marked_events marks (map message_of full))
    ∙ ap (marked marks) (sym (events_are full)) in
    let alike =
    purged_runs_agree_so_far old old_too new new_too later s (map event_of full) (map answer_of full)
    (map answer_of purged) is then agree run (remaining_answered old (chain later s) full others)
    (subst (λ es. Run old_too es (map answer_of purged) new_too) events again) (all_replied purged none) in (
      texts_are purged
          ∙ ap (λ ms. texts_for ms (map answer_of purged)) same
          ∙ ap (texts_for (remaining_messages old (chain later s) full)) (sym alike.0)
          ∙ sym (marked_texts marks full),
      alike.1,
    )
