-- Callers who are served from one moment to another, and others after them.
use Rattle.std.specs.Prelude.{◌||◌}
use Rattle.std.proofs.Common.{Bool, true, false, ℕ, ◌+◌, ◌≡◌, refl, sym, ap, ◌∙◌, subst, List, [], ◌∷◌, ◌++◌}
use Rattle.std.proofs.Common.{All, Option, Some, Result, Ok, Err, inl, inr, arith}
use Rattle.std.proofs.Common.{append-nil}
use Rattle.std.proofs.lemmas.Bool.{false≢true}
use Rattle.std.proofs.lemmas.List.{length-append}
use Rattle.std.proofs.lemmas.List.Elements.{All-append, All-cons, All-nil}
use Rattle.histories.specs.Account.{Account}
use Rattle.histories.specs.Calls.{Reads, Writes}
use Rattle.world.specs.Store.{Shown}
use Rattle.world.specs.World.{World}
use Rattle.interleave.specs.declared.between.CopyProgress.{CopyProgress}
use Rattle.engine.specs.declared.fault.Io.{Io}
use Rattle.socket.specs.Connections.{Come, Visit, exchanges_of}
use Rattle.socket.specs.History.{Does, Door, EndsOperator, Known, Takes, TakesNone, written_whole}
use Rattle.socket.specs.declared.deed.Deed.TheVariants as deed
use Rattle.socket.specs.declared.deed.Search.TheVariants.{Waiting, AtOnce}
use Rattle.control.specs.Copying.{Making, tasks_in, has_read, AllRead, GoesThroughSteps, IsBusy, IsOnlyRead}
use Rattle.control.specs.Finds.{WritesAndDoes}
use Rattle.control.specs.Health.{IsPinged, tally_of}
use Rattle.control.specs.Hearing as hearing
use Rattle.control.specs.Noted.{TellsPeer}
use Rattle.control.specs.Progress.{IsOver}
use Rattle.control.specs.Reserve.{DoesMore, Lent, once_begun}
use Rattle.control.specs.Serving.{AllTold, EndsBy, Instant, ObeysMeanwhile}
use Rattle.control.specs.Serving.{Serves, ServesMeanwhile, ServesPeer, TakesTurn}
use Rattle.control.specs.Serving.{TakesTurns, TakesTurnsBy, connected, tally_after}
use Rattle.control.specs.Tasks.{GoesThroughTasks}
use Rattle.control.specs.Traces.{HasAllTraces, HasTraces, Log, TellsOrder, TracesEach, UsesAndTells, WritesTraces}
use Rattle.control.specs.Uses.{IsUseIf}
use Rattle.control.specs.Visits.{Call, OfPeer, OfOperator, Untaken, Audience, CameIf, EndsEach, Happened}
use Rattle.control.specs.Visits.{IsCallThere, IsClosed, IsLong, IsToldThere, ObeysOne, ReadsEach, TellsTally}
use Rattle.control.specs.Visits.{search_with}
use Rattle.control.specs.Visits.{answered_with, callers_of, connections_of, steps_if, steps_of, steps_with}
use Rattle.socket.specs.declared.callers.Caller.{Caller}
use Rattle.socket.specs.declared.callers.Caller.TheVariants.{Peer, Operator}
use Rattle.orders.specs.declared.outcome.Outcome.TheVariants.{Stopping}
use Rattle.control.specs.declared.progress.Progress.{Progress}
use Rattle.control.specs.declared.tally.Tally.{Tally}
use Rattle.control.specs.declared.control_reply.ControlReply.{ControlReply}
use Rattle.control.specs.declared.control_reply.ControlReply.TheVariants as spoken
use Rattle.control.proofs.HappensLemmas.{happened_around, happened_none, happened_operator, happened_peer}
use Rattle.control.proofs.HappensLemmas.{happened_then, happened_untaken}
use Rattle.control.proofs.NoticeLemmas.{notices_more, notices_none, written_so}
use Rattle.control.proofs.OrderedLemmas.{Other, ToMake, no_stopping, ok_in, only_read, or_not, ordered_if, short_told}
use Rattle.control.proofs.OrderedLemmas.{through_told}
use Rattle.control.proofs.ServeLemmas.{none_come, steps_first, then_come}
use Rattle.control.proofs.StepLemmas.{no_reads, read_heard, read_then}
use Rattle.control.proofs.TallyLemmas.{tells_tally}
use Rattle.control.proofs.TraceLemmas.{order_traced, traces_around, traces_none, traces_operator, traces_peer}
use Rattle.control.proofs.TraceLemmas.{traces_then, traces_untaken}
use Rattle.control.proofs.TaskLemmas.{tasks_none, tasks_read}
use Rattle.control.proofs.CallsLemmas.{all_tallied, answered_append, callers_append, connections_append, ends_append}
use Rattle.control.proofs.CallsLemmas.{goes_on, is_end, may_end, none_ends, none_through, peers_few, read_or}
use Rattle.control.proofs.CallsLemmas.{steps_append, tally_append, through_append, through_read, told_append}

-- ---- from one moment to another

module _ {P O : Type 0} (heeded : O → Account × Reads) (told : O → Option (List ℕ) × Writes)
    (heard : P → Account × Reads) (written : P → Option (List ℕ) × Writes) (known : Known P O) where
  IsThere : Call P O → Type 0
  IsThere = IsCallThere heeded told heard written

  module _ {S : Type 0} (shown : S → Shown) (made : S → S → Making → Type 0)
      (counted : S → S → ℕ → Type 0) where
    abbrev From : Bool → Door (Caller P O) → Door (Caller P O) → Progress → Progress → Log → Log
        → Lent → Lent → S → S → Type 0
    From = Serves heeded told heard written known shown made counted

    -- nobody
    pub serves_none : (read : Bool) (door : Door (Caller P O)) (p : Progress) (e : Log) (l : Lent) (s : S)
        → From read door door p p e e l l s s
    serves_none read door p e l s = record {
      calls = [];
      came = none_come door.0;
      happened = happened_none (connected read) door.1;
      begun = All-nil known.is_new;
      closed = All-nil (IsClosed known);
      there = All-nil (IsCallThere heeded told heard written);
      through = none_through read (shown s);
      reads = λ h w stands. tt;
      tally = refl;
      tallies = tt;
      left = omega arith;
      taken = omega arith;
      ends = none_ends P O p.stops;
      traces = traces_none P O e l;
    }

    -- nobody, and the store was read
    pub serves_read : (door : Door (Caller P O)) (p : Progress) (e : Log) (l : Lent) (s t : S)
        → IsOnlyRead (shown s) (shown t) → From true door door p p e e l l s t
    serves_read door p e l s t read = record {
      calls = [];
      came = none_come door.0;
      happened = happened_none 1 door.1;
      begun = All-nil known.is_new;
      closed = All-nil (IsClosed known);
      there = All-nil (IsCallThere heeded told heard written);
      through = tasks_read (shown s) (shown t) read;
      reads = λ h w stands. tt;
      tally = refl;
      tallies = tt;
      left = omega arith;
      taken = omega arith;
      ends = none_ends P O p.stops;
      traces = traces_none P O e l;
    }

    -- callers, and then others
    pub serves_more : (read : Bool) (door mid end : Door (Caller P O)) (p q r : Progress)
        (e f g : Log) (l m n : Lent) (s t u : S)
        → From read door mid p q e f l m s t → From read mid end q r f g m n t u
        → From read door end p r e g l n s u
    serves_more read door mid end p q r e f g l m n s t u one two =
        let xs = one.calls in
        let ys = two.calls in
        record {
          calls = xs ++ ys;
          came = subst (Come door.0 end.0) (sym (callers_append xs ys))
              (then_come door.0 mid.0 end.0 (callers_of xs) (callers_of ys) one.came two.came);
          happened = happened_then (connected read) door.1 mid.1 end.1 xs ys one.happened two.happened;
          begun = subst (All known.is_new) (sym (callers_append xs ys))
              (All-append known.is_new (callers_of xs) (callers_of ys) one.begun two.begun);
          closed = All-append (IsClosed known) xs ys one.closed two.closed;
          there = All-append (IsCallThere heeded told heard written) xs ys one.there two.there;
          through = subst (λ steps. GoesThroughTasks (shown s) (shown u) (tasks_in steps) (read || has_read steps))
              (sym (steps_append xs ys))
              (through_append read (shown s) (shown t) (shown u) (steps_with xs) (steps_with ys) one.through
              two.through);
          reads = λ h w stands.
              let honest = two.through.runs.honest h in
              subst (AllRead shown made counted w) (sym (steps_append xs ys))
              (read_then shown made counted w (steps_with xs) (steps_with ys) (one.reads honest w stands)
              (two.reads h _ (one.through.runs.at honest w stands).ends));
          tally = two.tally ∙ ap (λ t. tally_after t (answered_with ys)) one.tally
              ∙ sym (tally_append p.tally (answered_with xs) (answered_with ys))
              ∙ ap (tally_after p.tally) (sym (answered_append xs ys));
          tallies = told_append p.tally xs ys one.tallies (subst (λ t. AllTold t ys) one.tally two.tallies);
          left = omega (arith, connections_append xs ys, one.left, two.left);
          taken = omega (arith, length-append xs ys, one.taken, two.taken);
          ends = ends_append p.stops q.stops r.stops xs ys one.ends two.ends;
          traces = traces_then xs ys e f g l m n one.traces two.traces;
        }

    module _ (read : Bool) (door end : Door (Caller P O)) (p q : Progress) (e f : Log)
        (l m : Lent) (s t : S) where
      -- one caller
      serves_one : (call : Call P O) → Come door.0 end.0 (callers_of (call ∷ []))
          → Happened (connected read) door.1 end.1 (call ∷ [])
          → All known.is_new (callers_of (call ∷ [])) → IsClosed known call → IsCallThere heeded told heard written call
          → GoesThroughSteps (shown s) (shown t) (steps_of call)
          → ((shown t).is_honest → (w : World) → (shown s).stands w → AllRead shown made counted w (steps_of call))
          → q.tally ≡ tally_after p.tally (answered_with (call ∷ [])) → AllTold p.tally (call ∷ [])
          → p.left ≡ q.left + connections_of (call ∷ []) → q.taken ≡ p.taken + 1 → EndsBy p.stops q.stops (call ∷ [])
          → WritesTraces (call ∷ []) e f l m → From read door end p q e f l m s t
      serves_one call comes happened fresh closed there through reads tally tallies left taken ends traces = record {
        calls = call ∷ [];
        came = comes;
        happened = happened;
        begun = fresh;
        closed = All-cons (IsClosed known) call [] closed (All-nil (IsClosed known));
        there = All-cons (IsCallThere heeded told heard written) call [] there
            (All-nil (IsCallThere heeded told heard written));
        through = subst (λ steps. GoesThroughTasks (shown s) (shown t) (tasks_in steps) (read || has_read steps))
            (sym (append-nil (steps_of call)))
            (read_or read (has_read (steps_of call)) (shown s) (shown t) (tasks_in (steps_of call)) through);
        reads = λ h w stands.
            subst (AllRead shown made counted w) (sym (append-nil (steps_of call))) (reads h w stands);
        tally = tally;
        tallies = tallies;
        left = left;
        taken = omega (arith, taken);
        ends = ends;
        traces = traces;
      }

      one_new : (caller : Caller P O) → known.is_new caller → All known.is_new (caller ∷ [])
      one_new caller fresh = All-cons known.is_new caller [] fresh (All-nil known.is_new)

      -- a peer
      pub serves_peer : (mid : Door (Caller P O)) (peer : P) → Takes (search_with (connected read)) door mid (Peer peer)
          → known.is_new (Peer peer) → p.stops ≡ false
          → ServesPeer heard written known peer mid end p q (shown s) (shown t)
          → WritesAndDoes (TellsPeer e.1 f.1) e.0 f.0 l m → From read door end p q e f l m s t
      unfolding serves_one
      serves_peer mid peer takes fresh going next tells =
          let first = next.answers.answers.first in
          let visit : Visit P = record { before = peer; after = next.gone; gone = next.ended.0; first = first } in
          serves_one (OfPeer visit next.answered)
          (subst (λ w. Come door.0 w (Peer peer ∷ [])) (sym next.ended.2.waits) takes.comes)
          (happened_peer (connected read) door mid end visit next.answered takes next.ended.2) (one_new (Peer peer) fresh) next.ended.1
          (next.answers.answers.there, next.answers.counts, next.answers.cause)
          (steps_first (shown s) (shown t) first next.answers.answers.through)
          (λ h w stands. no_reads shown made counted w (exchanges_of first))
          next.tally tt next.left next.taken
          (goes_on p.stops q.stops going next.stops (OfPeer visit next.answered) (λ never. never))
          (traces_peer O visit next.answered e f l m tells)

      -- a connection that could not be taken
      pub serves_untaken : TakesNone (search_with (connected read)) door end → p.stops ≡ false → q.tally ≡ p.tally → p.left ≡ q.left + 1
          → q.taken ≡ p.taken + 1 → q.stops ≡ p.stops → s ≡ t → e ≡ f → l ≡ m
          → From read door end p q e f l m s t
      unfolding serves_one
      serves_untaken takes going tally left taken stops same kept still =
          serves_one Untaken takes.comes (happened_untaken (connected read) door end takes) (All-nil known.is_new) tt tt
          (subst (λ x. GoesThroughSteps (shown s) (shown x) []) same (tasks_none (shown s)))
          (λ h w stands. tt) tally tt left taken
          (goes_on p.stops q.stops going stops Untaken (λ never. never))
          (traces_untaken P O e f l m kept still)

      -- an operator, who ordered no copy
      pub serves_operator : (mid : Door (Caller P O)) (idle : Option hearing.Heard → Type 0)
          (meanwhile : Making → Type 0)
          (tally_now : Tally) (operator gone : O) (stops : Bool)
          → Takes (search_with (connected read)) door mid (Operator operator) → known.is_new (Operator operator)
          → p.stops ≡ false → tally_now ≡ p.tally
          → (next : ObeysOne heeded told (made s t)
          (IsPinged tally_now (shown s).failures (shown t).failures (counted s t)) idle meanwhile operator gone stops
          (shown s) (shown t))
          → GoesThroughSteps (shown s) (shown t) (steps_if next.audience.heard) → ¬ IsLong next.audience.heard
          → EndsOperator mid end gone → q.tally ≡ p.tally → q.left ≡ p.left → q.taken ≡ p.taken + 1 → q.stops ≡ (p.stops || stops)
          → WritesAndDoes (UsesAndTells next.audience.heard next.audience.told) e.0 f.0 l m → f.1 ≡ e.1
          → From read door end p q e f l m s t
      unfolding serves_one
      serves_operator mid idle meanwhile tally_now operator gone stops takes fresh going now next through short ends tally
          left taken is traces faults =
          let x = next.audience in
          let takes_x = subst (λ o. Takes (search_with (connected read)) door mid (Operator o)) (sym next.begins) takes in
          let ends_x = subst (λ o. EndsOperator mid end o) (sym next.leaves) ends in
          serves_one (OfOperator x)
          (subst (λ w. Come door.0 w (Operator x.before ∷ [])) (sym ends_x.waits) takes_x.comes)
          (happened_operator (connected read) door mid end x takes_x short ends_x)
          (one_new (Operator x.before) (subst (λ o. known.is_new (Operator o)) (sym next.begins) fresh)) tt
          next.there through
          (λ h w stands. read_heard shown made counted tally_now s t h w stands x.heard next.came next.lists)
          tally (
            subst (λ u. TellsTally u x.heard) now
                (tells_tally (made s t) tally_now (shown s).failures (shown t).failures (counted s t) x.heard
                next.came),
            tt,
          )
          (omega (arith, left)) taken
          (may_end p.stops stops q.stops (OfOperator x) going is next.stopped.0
          (λ on stop. false≢true (sym on ∙ next.stopped.1 stop)))
          (traces_operator P x e f l m traces faults)

    no_stop_told : (before after : O) (making : Making) (said : Result ControlReply Io)
        → IsToldThere heeded told before after (Some (hearing.Made making)) said
        → said ≡ Ok (spoken.Outcome Stopping) → ⊥
    no_stop_told before after making (Ok outcome) there is =
        no_stopping making (sym there.0 ∙ ap (λ r. ok_in r outcome) is)
    no_stop_told before after making (Err e) there is = cc

    -- an operator who had something made, with the callers who were served meanwhile
    pub serves_made : (door mid watching last end : Door (Caller P O)) (p q r o : Progress) (e f g : Log)
        (k l n : Lent) (s m t : S)
        (before after : O) (making : Making) (said : Result ControlReply Io)
        → Takes Waiting door mid (Operator before) → known.is_new (Operator before) → p.stops ≡ false
        → Does mid watching [] deed.Watched → IsToldThere heeded told before after (Some (hearing.Made making)) said
        → (said ≡ Ok (spoken.Outcome Stopping) → ⊥)
        → made s t making → From true watching last q r e f (once_begun making k) l s m
        → IsOnlyRead (shown m) (shown t) → ¬ IsBusy making
        → WritesAndDoes (TellsOrder (Some (hearing.Made making)) said) f.0 g.0 l n → g.1 ≡ f.1
        → EndsOperator last end after
        → q.tally ≡ p.tally → q.left ≡ p.left → q.taken ≡ p.taken + 1 → q.stops ≡ p.stops
        → o.tally ≡ r.tally → o.left ≡ r.left → o.taken ≡ r.taken → o.stops ≡ r.stops
        → From false door end p o e g k n s t
    serves_made door mid watching last end p q r o e f g k l n s m t before after making said takes fresh going watched
        there never came next read begun tells faults closes tally left_is taken stops tally_o left_o taken_o stops_o =
        let x : Audience O =
        record { before = before; after = after; heard = Some (hearing.Made making); told = said } in
        let call : Call P O = OfOperator x in
        let ys = next.calls in
        record {
          calls = call ∷ ys;
          came = then_come door.0 mid.0 end.0 (Operator before ∷ []) (callers_of ys) takes.comes
              (subst (λ w. Come mid.0 w (callers_of ys)) (sym closes.waits)
              (subst (λ w. Come w last.0 (callers_of ys)) watched.waits next.came));
          happened = happened_around door mid watching last end x ys takes watched next.happened begun closes;
          begun = All-cons known.is_new (Operator before) (callers_of ys) fresh next.begun;
          closed = All-cons (IsClosed known) call ys tt next.closed;
          there = All-cons (IsCallThere heeded told heard written) call ys there next.there;
          through = through_read (shown s) (shown m) (shown t) (tasks_in (steps_with ys)) next.through read;
          reads = λ h w stands. (
            record { source = s; source_new = t; honest = h; stands = stands; came = came },
            next.reads (read.honest h) w stands,
          );
          tally = tally_o ∙ next.tally ∙ ap (λ u. tally_after u (answered_with ys)) tally;
          tallies = (tt, subst (λ u. AllTold u ys) tally next.tallies);
          left = omega (arith, next.left, left_is, left_o);
          taken = omega (arith, length-append (call ∷ []) ys, next.taken, taken, taken_o);
          ends = subst (λ b. EndsBy p.stops b (call ∷ ys)) (sym stops_o)
              (ends_append p.stops q.stops r.stops (call ∷ []) ys
              (goes_on p.stops q.stops going stops call never) next.ends);
          traces = traces_around x making ys e f g k l n refl begun next.traces tells faults;
        }

    -- ---- from the beginning to the end

    module _ (since : List ℕ) (connections : ℕ) (door end : Door (Caller P O)) (p q : Progress)
        (e f : Log) (l m : Lent) (s t : S)
        (all : From false door end p q e f l m s t) (tally : p.tally ≡ tally_of since []) (left : p.left ≡ connections)
        (taken : p.taken ≡ 0) (stops : p.stops ≡ false) where
      pub serves_each : ReadsEach heeded told heard written shown made counted known door end s t since
          connections
      serves_each = record {
        each = record {
          calls = all.calls;
          few = omega (arith, peers_few all.calls, all.left, left);
          came = all.came;
          happened = all.happened;
          begun = all.begun;
          closed = all.closed;
          there = all.there;
          through = all.through;
        };
        reads = all.reads;
        tallies = all_tallied since [] all.calls p.tally tally all.tallies;
      }

      -- no caller was taken any more
      pub ends_each : IsOver q.stops q.left q.taken
          → EndsEach heeded told heard written shown made counted known door end s t since connections
      unfolding serves_each
      ends_each over = record {
        reads = serves_each;
        ends = is_end connections q.left q.taken q.stops all.calls
            (subst (λ b. EndsBy b q.stops all.calls) stops all.ends) (sym left ∙ all.left)
            (omega (arith, all.taken, taken)) over;
      }

      -- their lines were written, from the first fault on, and each order used the reserve as it may
      pub traces_each : IsOver q.stops q.left q.taken → e.1.told.items ≡ []
          → TracesEach heeded told heard written shown made counted known door end s t since connections e.0 f.0 l.1
          l.0 m.0
      unfolding ends_each serves_each
      traces_each over none =
          let more = all.traces.1 in
          record {
            ends = ends_each over;
            more = more;
            are = all.traces.2;
            traces = written_so (λ lines. HasTraces all.calls e.1 f.1 l.1 m.1 lines more)
                (λ lines. HasAllTraces l.1 all.calls lines more) e.0 f.0
                (λ lines has. record {
                  faults = e.1;
                  faults_new = f.1;
                  found_new = m.1;
                  none = none;
                  traces = has;
                }) all.traces.3;
          }

    -- ---- while a copy is made

    one_turn : (a b : Instant P O S) → TakesTurn heeded told heard written known shown made counted a b
        → ServesMeanwhile heeded told heard written known shown made counted a b
    unfolding serves_read
    one_turn a b (inl (read, same)) = subst (ServesMeanwhile heeded told heard written known shown made counted a)
        (sym same) (record {
          serves = serves_read a.door a.progress a.log a.room a.store b.store
              (only_read (shown a.store) (shown b.store) read);
          notes = notices_none a.log.0.0;
          same = refl;
        })
    one_turn a b (inr serves) = serves

    turns_all : (a b : Instant P O S) (by : List (Instant P O S))
        → TakesTurnsBy heeded told heard written known shown made counted a by b
        → ServesMeanwhile heeded told heard written known shown made counted a b
    unfolding one_turn serves_more
    turns_all a b [] turn = one_turn a b turn
    turns_all a b (mid ∷ more) turns =
        let one = one_turn a mid turns.0 in
        let two = turns_all mid b more turns.1 in
        record {
          serves = serves_more true a.door mid.door b.door a.progress mid.progress b.progress
              a.log mid.log b.log a.room mid.room b.room a.store mid.store b.store one.serves two.serves;
          notes = notices_more a.log.0.0 mid.log.0.0 b.log.0.0 one.notes two.notes;
          same = two.same ∙ one.same;
        }

    -- all turns together
    pub all_turns : (a b : Instant P O S) → TakesTurns heeded told heard written known shown made counted a b
        → ServesMeanwhile heeded told heard written known shown made counted a b
    unfolding turns_all
    all_turns a b turns = turns_all a b turns.0 turns.1

    -- an operator, for whom no copy was made
    pub serves_told : (door mid end : Door (Caller P O)) (p q : Progress) (e f : Log) (l m : Lent) (s t : S)
        (operator : O) (far : Option CopyProgress)
        → Takes AtOnce door mid (Operator operator) → known.is_new (Operator operator) → p.stops ≡ false
        → ObeysMeanwhile heeded told shown made counted operator far mid end p q e f l m s t
        → From true door end p q e f l m s t
    unfolding serves_operator
    serves_told door mid end p q e f l m s t operator far takes fresh going next =
        serves_operator true door end p q e f l m s t mid (λ _. Unit {0})
        (λ making. IsOnlyRead (shown s) (shown t) × IsBusy making)
        p.tally operator next.gone
        next.stops takes fresh going refl next.obeys
        (through_told (λ _. Unit {0}) (shown s) (shown t) next.obeys.audience.heard
        (ordered_if _ _ (shown s) (shown t) next.obeys.audience.heard next.obeys.through))
        (short_told (λ _. Unit {0}) (shown s) (shown t) next.obeys.audience.heard
        (ordered_if _ _ (shown s) (shown t) next.obeys.audience.heard next.obeys.through))
        next.ended next.tally next.left next.taken next.ends next.traces next.faults

    module _ (door mid last end : Door (Caller P O)) (p a b q : Progress) (e f g : Log)
        (k l n : Lent) (s t : S)
        (idle : Option hearing.Heard → Type 0) (meanwhile : Making → Type 0)
        (still : (heard : Option hearing.Heard) → idle heard
        → (last ≡ mid) × (b ≡ a) × (f ≡ e) × DoesMore (IsUseIf heard) k l)
        (turns : (making : Making) → meanwhile making
        → (watching : Door (Caller P O)) × (m : S) × Does mid watching [] deed.Watched
        × From true watching last a b e f (once_begun making k) l s m × IsOnlyRead (shown m) (shown t)
        × ¬ IsBusy making)
        (operator gone : O) (stops : Bool) (takes : Takes Waiting door mid (Operator operator))
        (fresh : known.is_new (Operator operator)) (going : p.stops ≡ false)
        (next : ObeysOne heeded told (made s t)
        (IsPinged a.tally (shown s).failures (shown t).failures (counted s t)) idle meanwhile operator gone stops
        (shown s) (shown t))
        (tells : WritesAndDoes (TellsOrder next.audience.heard next.audience.told) f.0 g.0 l n)
        (faults : g.1 ≡ f.1)
        (ends : EndsOperator last end gone)
        (tally : a.tally ≡ p.tally) (left : a.left ≡ p.left) (taken : a.taken ≡ p.taken + 1) (same : a.stops ≡ p.stops)
        (tally_q : q.tally ≡ b.tally) (left_q : q.left ≡ b.left) (taken_q : q.taken ≡ b.taken)
        (stops_q : q.stops ≡ (b.stops || stops)) where
      other_served : idle next.audience.heard → GoesThroughSteps (shown s) (shown t) (steps_if next.audience.heard)
          → ¬ IsLong next.audience.heard → From false door end p q e g k n s t
      unfolding serves_operator
      other_served rests through short =
          let both = still next.audience.heard rests in
          serves_operator false door end p q e g k n s t mid idle meanwhile a.tally operator gone stops takes fresh going
          tally next through short (subst (λ d. EndsOperator d end gone) both.0 ends)
          (tally_q ∙ ap (λ x. x.tally) both.1 ∙ tally) (left_q ∙ ap (λ x. x.left) both.1 ∙ left)
          (taken_q ∙ ap (λ x. x.taken) both.1 ∙ taken)
          (stops_q ∙ ap (λ x. x.stops || stops) both.1 ∙ ap (λ x. x || stops) same)
          (subst (λ x. WritesAndDoes (UsesAndTells next.audience.heard next.audience.told) x.0 g.0 k n) both.2
          (order_traced next.audience.heard next.audience.told f.0 g.0 k l n both.3 tells))
          (subst (λ x. g.1 ≡ x.1) both.2 faults)

      made_served : (making : Making)
          → next.audience.heard ≡ Some (hearing.Made making) → meanwhile making → From false door end p q e g k n s t
      unfolding serves_made
      made_served making is done =
          let x = next.audience in
          let went = turns making done in
          let there : IsToldThere heeded told x.before x.after (Some (hearing.Made making)) x.told =
          subst (λ h. IsToldThere heeded told x.before x.after h x.told) is next.there in
          let never = no_stop_told x.before x.after making x.told there in
          serves_made door mid went.0 last end p a b q e f g k l n s went.1 t x.before x.after making x.told
          (subst (λ o. Takes Waiting door mid (Operator o)) (sym next.begins) takes)
          (subst (λ o. known.is_new (Operator o)) (sym next.begins) fresh) going went.2 there never
          (subst (λ h. CameIf (made s t)
          (IsPinged a.tally (shown s).failures (shown t).failures (counted s t)) h) is next.came)
          went.3 went.4 went.5 (subst (λ h. WritesAndDoes (TellsOrder h x.told) f.0 g.0 l n) is tells) faults
          (subst (λ o. EndsOperator last end o) (sym next.leaves) ends) tally left taken same tally_q left_q taken_q
          (stops_q ∙ or_not b.stops stops (λ on. never (next.stopped.0 on)))

      -- an operator, and those who were served while a copy was made for it, if one was
      pub obey_serves : From false door end p q e g k n s t
      unfolding other_served made_served
      obey_serves = elim (ordered_if idle meanwhile (shown s) (shown t) next.audience.heard next.through) [
        | Other rests through short ↦ other_served rests through short
        | ToMake making is done ↦ made_served making is done
      ]
