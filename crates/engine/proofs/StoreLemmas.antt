-- A store goes through messages: none, one, and more after others.
use Rattle.std.proofs.Common.{◌≡◌, ℕ, List, [], ◌∷◌, ◌++◌, map, Option, refl, sym, subst, ap, ◌∙◌, inl, inr, Result, Ok}
use Rattle.std.proofs.Common.{Err, arith, append-nil}
use Rattle.std.proofs.lemmas.List.{map-append}
use Rattle.modver.specs.SemanticVersion.{SemanticVersion}
use Rattle.framing.specs.Message.{MessageView}
use Rattle.machine.specs.declared.request.Request.{Request}
use Rattle.machine.specs.declared.reply.Reply.{Reply}
use Rattle.machine.specs.declared.reply.Reply.TheVariants.{GoMod, Info, Versions, Paths}
use Rattle.world.specs.declared.registry.StoreFault.{StoreFault}
use Rattle.world.specs.World.{World}
use Rattle.machine.specs.Machine.{request_reply, after_request, reply_to, after, HasBody}
use Rattle.world.specs.Store.{Shown, Does, DoesAt}
use Rattle.machine.proofs.Changes.{bodies_change_nothing}
use Rattle.engine.specs.Request.{request_of, sum_of}
use Rattle.engine.specs.Request.{event_of_message}
use Rattle.engine.specs.Exchange.{Exchange, Outcome, Unserved, Met, Served, event_of, answer_of}
use Rattle.engine.specs.Reply.{IsComposed, IsOutcome}
use Rattle.engine.specs.Store.{GoesThrough, LeavesTwo, AllCalm, world_at}
use Rattle.engine.proofs.CrashLemmas.{leaves_still, leaves_more, world_step}
use Rattle.engine.proofs.RunLemmas.{world_more, met_either}
use Rattle.machine.proofs.Runs.{runs_none, runs_unasked, runs_failed, runs_replied, runs_lost, runs_joined, grown_more}
use Rattle.machine.proofs.Runs.{grown_before}

calm_both : (w : World) (xs ys : List Exchange) → AllCalm w (xs ++ ys) → AllCalm w xs × AllCalm (world_at w xs) ys
calm_both w [] ys all = (tt, all)
calm_both w (x ∷ xs) ys all =
    let both = calm_both (world_at w (x ∷ [])) xs ys all.1 in
    ((all.0, both.0), subst (λ v. AllCalm v ys) (world_step w x xs) both.1)

-- a reply whose body is composed has a body
composed_body : (sum : Option (List ℕ × SemanticVersion)) (r : Reply) → IsComposed sum r → HasBody r
composed_body sum (GoMod b) composed = tt
composed_body sum (Info v time) composed = tt
composed_body sum (Versions vs) composed = tt
composed_body sum (Paths ps) composed = tt
composed_body sum other composed = absurd composed

-- ---- none

-- an unchanged store goes through no messages
pub through_none : (shown : Shown) → GoesThrough shown shown []
through_none shown = record {
  runs = record {
    honest = λ h. h;
    at = λ h w stands. runs_none shown w stands;
  };
  left = λ h w stands was. was;
  settled = λ h w stands calm was. was;
  untouched = λ none h w x was. was;
  no_fewer = omega arith;
  device = λ met. absurd met;
}

-- ---- one

-- an unchanged store goes through a message that the machine did not see
pub through_unasked : (shown : Shown) (m : MessageView) → ((w x : World) → shown.leaves w w → shown.leaves w x)
    → GoesThrough shown shown (record { message = m; outcome = Unserved } ∷ [])
through_unasked shown m wider = record {
  runs = record {
    honest = λ h. h;
    at = λ h w stands. runs_unasked shown w _ _ stands;
  };
  left = λ h w stands was. wider w _ was;
  settled = λ h w stands calm was. was;
  untouched = λ none. cc;
  no_fewer = omega arith;
  device = λ met. elim met [ inl is ↦ cc | inr never ↦ absurd never ];
}

module _ (old new : Shown) (m : MessageView) (request : Request) (is : request ≡ request_of m) where
  -- the step does in each world what it does for the event of the message
  asked : new.is_honest → (w : World) → old.stands w → (answer : Result Reply StoreFault)
      → Does {T = Reply} old new answer (λ w. request_reply w request) (λ w. after_request w request)
      → DoesAt {T = Reply} old new w answer (reply_to w (event_of_message m)) (after w (event_of_message m))
  asked h w stands answer does =
      subst (λ a. DoesAt {T = Reply} old new w answer (request_reply w a) (after_request w a)) is
      (does.at h w stands tt)

  -- the store goes through a message at which it met a fault
  pub through_met : (fault : StoreFault)
      → Does {T = Reply} old new (Err fault) (λ w. request_reply w request) (λ w. after_request w request)
      → GoesThrough old new (record { message = m; outcome = Met fault } ∷ [])
  through_met fault does = record {
    runs = record {
      honest = λ h. does.honest h;
      at = λ h w stands. runs_failed old new w _ fault _ (asked h w stands (Err fault) does);
    };
    left = λ h w stands was.
        subst (λ x. new.leaves w x) (ap (after_request w) is) ((does.at h w stands tt).crash.either was);
    settled = λ h w stands calm was. elim calm.0 [
      | inl never ↦ absurd never
      | inr idle ↦ subst (λ x. new.leaves w x) (ap (after_request w) is ∙ idle)
          ((does.at h w stands tt).crash.either was)
    ];
    untouched = λ none. cc;
    no_fewer = does.cause.no_fewer;
    device = λ met. elim met [ inl same ↦ does.cause.device cc | inr never ↦ absurd never ];
  }

  -- the store goes through a message that got a reply
  pub through_reply : (reply : Reply)
      → Does {T = Reply} old new (Ok reply) (λ w. request_reply w request) (λ w. after_request w request)
      → GoesThrough old new (record { message = m; outcome = Served reply } ∷ [])
  through_reply reply does = record {
    runs = record {
      honest = λ h. does.honest h;
      at = λ h w stands. runs_replied old new w _ reply (asked h w stands (Ok reply) does);
    };
    left = λ h w stands was.
        subst (λ x. new.leaves w x) (ap (after_request w) is) ((does.at h w stands tt).crash.either was);
    settled = λ h w stands calm was. still w ((does.at h w stands tt).crash.alone was);
    untouched = λ none. cc;
    no_fewer = does.cause.no_fewer;
    device = λ met. elim met [ inl same ↦ cc | inr never ↦ absurd never ];
  }
    where
      still : (w : World) → new.leaves (after_request w request) (after_request w request)
          → new.leaves (after_request w (request_of m)) (after_request w (request_of m))
      still w leaves = subst (λ x. new.leaves x x) (ap (after_request w) is) leaves

  -- the store goes through a message whose reply had a body that memory ran out for: the world is unchanged
  pub through_unshown : (reply : Reply) → HasBody reply
      → Does {T = Reply} old new (Ok reply) (λ w. request_reply w request) (λ w. after_request w request)
      → GoesThrough old new (record { message = m; outcome = Unserved } ∷ [])
  through_unshown reply body does = record {
    runs = record {
      honest = λ h. does.honest h;
      at = λ h w stands. runs_lost old new w _ reply _ _ (asked h w stands (Ok reply) does)
          (ap (after_request w) (sym is) ∙ same h w stands);
    };
    left = λ h w stands was.
        subst (λ x. new.leaves w x) (ap (after_request w) is) ((does.at h w stands tt).crash.either was);
    settled = λ h w stands calm was. still h w stands was;
    untouched = λ none. cc;
    no_fewer = does.cause.no_fewer;
    device = λ met. elim met [ inl other ↦ cc | inr never ↦ absurd never ];
  }
    where
      same : new.is_honest → (w : World) → old.stands w → after_request w request ≡ w
      same h w stands = bodies_change_nothing w request (subst HasBody (does.at h w stands tt).answer body)

      still : new.is_honest → (w : World) → old.stands w → old.leaves w w → new.leaves w w
      still h w stands was = subst (λ x. new.leaves x x) (same h w stands) ((does.at h w stands tt).crash.alone was)

  -- the store goes through a message with the outcome that fits the machine's answer
  pub through_asked : (answer : Result Reply StoreFault) (outcome : Outcome) → IsOutcome (sum_of m) answer outcome
      → Does {T = Reply} old new answer (λ w. request_reply w request) (λ w. after_request w request)
      → GoesThrough old new (record { message = m; outcome = outcome } ∷ [])
  through_asked (Ok reply) (Served r) same does = rw same (through_reply reply does)
  through_asked (Ok reply) Unserved composed does = through_unshown reply (composed_body (sum_of m) reply composed) does
  through_asked (Ok reply) (Met f) wrong does = absurd wrong
  through_asked (Err fault) (Met f) same does = rw same (through_met fault does)
  through_asked (Err fault) Unserved wrong does = absurd wrong
  through_asked (Err fault) (Served r) wrong does = absurd wrong

-- ---- more after others

none_of : (xs ys : List Exchange) → xs ++ ys ≡ [] → (xs ≡ []) × (ys ≡ [])
none_of [] ys e = (refl, e)
none_of (x ∷ xs) ys e = cc

module _ (old mid new : Shown) (xs : List Exchange) (first : GoesThrough old mid xs) where
  -- a crash after more messages leaves one of two worlds
  leaves_after : (ys : List Exchange) → GoesThrough mid new ys → new.is_honest → (w : World) → old.stands w
      → old.leaves w w
      → LeavesTwo new w (xs ++ ys)
  leaves_after [] next h w stands was =
      subst (LeavesTwo new w) (sym (append-nil xs))
      (leaves_still mid new (next.untouched refl h) w xs (first.left (next.runs.honest h) w stands was))
  leaves_after (y ∷ ys) next h w stands was =
      let honest = next.runs.honest h in
      leaves_more new w xs y ys
      (λ all. next.left h _ (first.runs.at honest w stands).ends (first.settled honest w stands all was))

  module _ (ys : List Exchange) where
    same_world : mid.is_honest → (w : World) → old.stands w → world_at (world_at w xs) ys ≡ world_at w (xs ++ ys)
    same_world h w stands =
        rw (map-append event_of xs ys, map-append answer_of xs ys)
        (world_more w _ (map event_of xs) (map event_of ys) (map answer_of xs) (map answer_of ys)
        (first.runs.at h w stands).run)

    -- a store that goes through some messages and then through more goes through all of them
    pub through_more : GoesThrough mid new ys → GoesThrough old new (xs ++ ys)
    through_more next = record {
      runs = rw (map-append event_of xs ys, map-append answer_of xs ys)
          (runs_joined old mid new (map event_of xs) (map event_of ys) (map answer_of xs) (map answer_of ys) first.runs
          next.runs);
      left = leaves_after ys next;
      settled = λ h w stands calm was.
          let both = calm_both w xs ys calm in
          let honest = next.runs.honest h in
          let there = (first.runs.at honest w stands).ends in
          subst (λ x. new.leaves x x) (same_world honest w stands)
          (next.settled h _ there both.1 (first.settled honest w stands both.0 was));
      untouched = λ none h w x was.
          let both = none_of xs ys none in
          next.untouched both.1 h w x (first.untouched both.0 (next.runs.honest h) w x was);
      no_fewer = omega (arith, first.no_fewer, next.no_fewer);
      device = λ met.
          let either = met_either (map answer_of xs) (map answer_of ys) (rw (map-append answer_of xs ys) at met) in
          elim either [
            | inl earlier ↦ grown_more _ _ _ (first.device earlier) next.no_fewer
            | inr later ↦ grown_before _ _ _ first.no_fewer (next.device later)
          ];
    }
