-- What two stores write for the messages of a team, if the second stands for the team's part of the first one's world.
use Rattle.std.proofs.Common.{◌≡◌, ◌⊎◌, List, [], ◌∷◌, inl, inr, refl, sym, ap, subst, ◌∙◌}
use Rattle.std.specs.Prelude.{map}
use Rattle.framing.specs.Message.{MessageView}
use Rattle.wire.specs.Reply.{fixed_bytes}
use Rattle.wire.specs.declared.reply.Fixed.TheVariants.{NotFound}
use Rattle.machine.specs.declared.reply.Reply.{Reply}
use Rattle.machine.specs.declared.reply.Reply.TheVariants as reply
use Rattle.machine.specs.declared.reply.Decision.TheVariants as decision
use Rattle.machine.specs.declared.reply.Answer.{Answer}
use Rattle.machine.specs.declared.reply.Answer.TheVariants.{Replied, Failed}
use Rattle.world.specs.World.{World}
use Rattle.world.specs.Part.{part}
use Rattle.machine.specs.Machine.{answered, replies_of, after_all, request_reply, Run}
use Rattle.machine.specs.Parts.{AllOwn, AllRequested, IsNotFound}
use Rattle.machine.proofs.Parts.{part_tells_the_same, others_are_not_found, run_leads}
use Rattle.engine.specs.Request as spec
use Rattle.engine.specs.Exchange.{Exchange, Outcome, Unserved, Met, Served, event_of, answer_of}
use Rattle.engine.specs.AnsweredEvent.{AnsweredEvent, event_in, text_in, origin_of, event_at, answer_at, text_at}
use Rattle.engine.specs.AnsweredEvent.{faultless}
use Rattle.engine.specs.Headline.{unavailable}
use Rattle.engine.specs.Reply.{bytes_of, text_of}
use Rattle.engine.specs.Parts.{PartWritesTheSame, OthersAreWrittenNotFound}
use Rattle.engine.proofs.FaultlessLemmas.{texts, events_are, faultless_events, faultless_texts}

-- ---- two runs that answered alike

-- two runs that answered the same messages and commands answered the same events
pub answered_alike : (xs ys : List AnsweredEvent) → map origin_of (faultless xs) ≡ map origin_of (faultless ys)
    → answered (map event_at xs) (map answer_at xs) ≡ answered (map event_at ys) (map answer_at ys)
answered_alike xs ys same = faultless_events xs
    ∙ (events_are (faultless xs) ∙ ap (map event_in) same ∙ sym (events_are (faultless ys))) ∙ sym (faultless_events ys)

-- two runs that answered the same messages and commands with the same replies wrote the same texts
pub written_alike : (xs ys : List AnsweredEvent) → map origin_of (faultless xs) ≡ map origin_of (faultless ys)
    → replies_of (map answer_at xs) ≡ replies_of (map answer_at ys)
    → map text_at (faultless xs) ≡ map text_at (faultless ys)
written_alike xs ys same replies =
    faultless_texts text_in xs
    ∙ ap (λ cs. texts text_in cs (replies_of (map answer_at xs))) same
    ∙ ap (texts text_in (map origin_of (faultless ys))) replies
    ∙ sym (faultless_texts text_in ys)

-- ---- messages of the team

pub part_writes_the_same : PartWritesTheSame
part_writes_the_same w new other s xs ys is run again same own =
    written_alike xs ys same
    (part_tells_the_same w new other s (map event_at xs) (map event_at ys) (map answer_at xs) (map answer_at ys) is run
    again (answered_alike xs ys same)
    (subst (AllOwn w s) (sym (faultless_events xs)) own))

-- ---- messages of others

pub all_requested : (xs : List Exchange) → AllRequested (answered (map event_of xs) (map answer_of xs))
all_requested [] = tt
all_requested (x ∷ xs) = go x.outcome refl (all_requested xs)
  where
    go : (o : Outcome) → x.outcome ≡ o → AllRequested (answered (map event_of xs) (map answer_of xs))
        → AllRequested (answered (map event_of (x ∷ xs)) (map answer_of (x ∷ xs)))
    go Unserved is rest = rw is rest
    go (Met fault) is rest = rw is rest
    go (Served reply) is rest = rw is rest

not_found_written : (m : MessageView) (r : Reply) → IsNotFound r → bytes_of m (Replied r) ≡ fixed_bytes NotFound
not_found_written m reply.NotFound is = refl
not_found_written m (reply.Decided decision.NotFound) is = refl
not_found_written m r is = absurd is

-- a message whose reply is not found gets the 404 or the 503
pub not_found_or_unavailable : (mid new : World) (x : Exchange)
    → IsNotFound (request_reply mid (spec.request_of x.message))
    → Run mid (event_of x ∷ []) (answer_of x ∷ []) new → (text_of x ≡ fixed_bytes NotFound) ⊎ (text_of x ≡ unavailable)
not_found_or_unavailable mid new x found last = go (answer_of x) refl
  where
    go : (a : Answer) → answer_of x ≡ a → (text_of x ≡ fixed_bytes NotFound) ⊎ (text_of x ≡ unavailable)
    go (Failed fault) is = inr (ap (bytes_of x.message) is)
    go (Replied r) is =
        let reply = (subst (λ a. Run mid (event_of x ∷ []) (a ∷ []) new) is last).0 in
        inl (ap (bytes_of x.message) is ∙ not_found_written x.message r (subst IsNotFound (sym reply) found))

pub others_are_written_not_found : OthersAreWrittenNotFound
others_are_written_not_found w mid new s k before x far by run last =
    let es = answered (map event_of before) (map answer_of before) in
    let at : mid ≡ after_all (part w s) es =
    run_leads (part w s) mid (map event_of before) (map answer_of before) run in
    let found = others_are_not_found w s k es (spec.request_of x.message) far by (all_requested before) in
    not_found_or_unavailable mid new x
    (subst (λ u. IsNotFound (request_reply u (spec.request_of x.message))) (sym at) found)
    last
