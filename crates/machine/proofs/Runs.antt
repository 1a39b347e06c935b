-- A run goes on by one event, or by another run.
use Rattle.std.proofs.Common.{◌≡◌, ℕ, ◌+◌, ◌<◌, List, [], ◌∷◌, ◌++◌, length, get_or, take, refl, sym, subst, ◌∙◌, inl}
use Rattle.std.proofs.Common.{inr, ◌⊎◌, Ok, Err}
use Rattle.std.proofs.lemmas.List.{take_more}
use Rattle.machine.specs.declared.request.Event.{Event}
use Rattle.machine.specs.declared.reply.Answer.{Answer}
use Rattle.machine.specs.declared.reply.Answer.TheVariants.{Replied, Failed}
use Rattle.world.specs.World.{World}
use Rattle.world.specs.declared.registry.StoreFault.{StoreFault}
use Rattle.world.specs.declared.registry.StoreFault.TheVariants.{Device}
use Rattle.machine.specs.declared.reply.Reply.{Reply}
use Rattle.machine.specs.Machine.{reply_to, after, Run, AnsweredOrIdle, MetDevice, world_after}
use Rattle.world.specs.Store.{Shown, DoesAt}
pub use Rattle.world.proofs.Causes.{grown_more, grown_before}
use Rattle.machine.specs.Runs.{Runs, RunsAt, AllKeep, Settles, IsPending, MayLeave}

pub run_more : (old mid new : World) (events more : List Event) (answers last : List Answer)
    → Run old events answers mid → Run mid more last new → Run old (events ++ more) (answers ++ last) new
run_more old mid new [] more [] last run next = subst (λ w. Run w more last new) run next
run_more old mid new [] more (a ∷ answers) last run next = absurd run
run_more old mid new (e ∷ es) more [] last run next = absurd run
run_more old mid new (e ∷ es) more (Replied r ∷ answers) last run next =
    (run.0, run_more (after old e) mid new es more answers last run.1 next)
run_more old mid new (e ∷ es) more (Failed fault ∷ answers) last run next =
    run_more old mid new es more answers last run next

-- ---- one more answer

-- an event that met a fault would have changed nothing, whether before or after
pub idle_split : (old mid : World) (events more : List Event) (answers last : List Answer) → Run old events answers mid
    → AnsweredOrIdle old (events ++ more) (answers ++ last)
    → AnsweredOrIdle old events answers × AnsweredOrIdle mid more last
idle_split old mid [] more [] last run idle = (tt, subst (λ w. AnsweredOrIdle w more last) (sym run) idle)
idle_split old mid [] more (a ∷ answers) last run idle = absurd run
idle_split old mid (e ∷ es) more [] last run idle = absurd run
idle_split old mid (e ∷ es) more (Replied r ∷ answers) last run idle =
    idle_split (after old e) mid es more answers last run.1 idle
idle_split old mid (e ∷ es) more (Failed fault ∷ answers) last run idle =
    let halves = idle_split old mid es more answers last run idle.1 in ((idle.0, halves.0), halves.1)

pub met_before : (answers : List Answer) (a : Answer) → MetDevice (answers ++ a ∷ [])
    → MetDevice answers ⊎ (a ≡ Failed Device)
met_before [] a (inl here) = inr here
met_before [] a (inr never) = absurd never
met_before (b ∷ answers) a (inl here) = inl (inl here)
met_before (b ∷ answers) a (inr later) = elim (met_before answers a later) [ inl x ↦ inl (inr x) | inr x ↦ inr x ]

-- ---- the world at the end

-- a run leads to the world after the events that were answered
pub run_end : (old new : World) (events : List Event) (answers : List Answer) → Run old events answers new
    → new ≡ world_after old events answers
run_end old new [] [] run = run
run_end old new [] (a ∷ answers) run = absurd run
run_end old new (e ∷ es) [] run = absurd run
run_end old new (e ∷ es) (Replied r ∷ answers) run = run_end (after old e) new es answers run.1
run_end old new (e ∷ es) (Failed fault ∷ answers) run = run_end old new es answers run

-- ---- what a crash leaves

-- events that change nothing lead nowhere
keep_ends : (w : World) (es : List Event) (answers : List Answer) → AllKeep w es answers → world_after w es answers ≡ w
keep_ends w [] answers keep = refl
keep_ends w (e ∷ es) [] keep = refl
keep_ends w (e ∷ es) (Replied r ∷ answers) keep = keep_ends (after w e) es answers keep.1 ∙ keep.0
keep_ends w (e ∷ es) (Failed fault ∷ answers) keep = keep_ends w es answers keep

keep_more : (old mid : World) (es more : List Event) (answers last : List Answer) → Run old es answers mid
    → AllKeep old es answers → AllKeep mid more last → AllKeep old (es ++ more) (answers ++ last)
keep_more old mid [] more [] last run keep next = subst (λ w. AllKeep w more last) run next
keep_more old mid [] more (a ∷ answers) last run keep next = absurd run
keep_more old mid (e ∷ es) more [] last run keep next = absurd run
keep_more old mid (e ∷ es) more (Replied r ∷ answers) last run keep next =
    (keep.0, keep_more (after old e) mid es more answers last run.1 keep.1 next)
keep_more old mid (e ∷ es) more (Failed fault ∷ answers) last run keep next =
    keep_more old mid es more answers last run keep next

-- a world is pending still if nothing changes
pending_first : (old mid : World) (es more : List Event) (answers last : List Answer) (x : World)
    → Run old es answers mid
    → IsPending old es answers x → AllKeep mid more last → IsPending old (es ++ more) (answers ++ last) x
pending_first old mid [] more [] last x run is keep = absurd is
pending_first old mid [] more (a ∷ answers) last x run is keep = absurd run
pending_first old mid (e ∷ es) more [] last x run is keep = absurd run
pending_first old mid (e ∷ es) more (Replied r ∷ answers) last x run is keep =
    pending_first (after old e) mid es more answers last x run.1 is keep
pending_first old mid (e ∷ es) more (Failed fault ∷ answers) last x run (inl here) keep =
    inl (here.0, keep_more old mid es more answers last run here.1 keep)
pending_first old mid (e ∷ es) more (Failed fault ∷ answers) last x run (inr later) keep =
    inr (pending_first old mid es more answers last x run later keep)

pending_next : (old mid : World) (es more : List Event) (answers last : List Answer) (x : World)
    → Run old es answers mid
    → IsPending mid more last x → IsPending old (es ++ more) (answers ++ last) x
pending_next old mid [] more [] last x run is = subst (λ w. IsPending w more last x) run is
pending_next old mid [] more (a ∷ answers) last x run is = absurd run
pending_next old mid (e ∷ es) more [] last x run is = absurd run
pending_next old mid (e ∷ es) more (Replied r ∷ answers) last x run is =
    pending_next (after old e) mid es more answers last x run.1 is
pending_next old mid (e ∷ es) more (Failed fault ∷ answers) last x run is =
    inr (pending_next old mid es more answers last x run is)

-- the last change that was answered is before or after
settles_split : (old mid : World) (es more : List Event) (answers last : List Answer) → Run old es answers mid
    → Settles old (es ++ more) (answers ++ last)
    → (Settles old es answers × AnsweredOrIdle mid more last) ⊎ Settles mid more last
settles_split old mid [] more [] last run settles = inr (subst (λ w. Settles w more last) (sym run) settles)
settles_split old mid [] more (a ∷ answers) last run settles = absurd run
settles_split old mid (e ∷ es) more [] last run settles = absurd run
settles_split old mid (e ∷ es) more (Replied r ∷ answers) last run (inl here) =
    let halves = idle_split (after old e) mid es more answers last run.1 here.1 in
    inl (inl (here.0, halves.0), halves.1)
settles_split old mid (e ∷ es) more (Replied r ∷ answers) last run (inr later) =
    elim (settles_split (after old e) mid es more answers last run.1 later) [
      | inl both ↦ inl (inr both.0, both.1)
      | inr there ↦ inr there
    ]
settles_split old mid (e ∷ es) more (Failed fault ∷ answers) last run settles =
    settles_split old mid es more answers last run settles

module _ (w : World) (es more : List Event) (answers last : List Answer)
    (run : Run w es answers (world_after w es answers))
    (same : world_after (world_after w es answers) more last ≡ world_after w (es ++ more) (answers ++ last))
    (x y z : World) where
  abbrev mid : World
  mid = world_after w es answers

  -- what may be left after both
  may_more : MayLeave w es answers x y → MayLeave mid more last y z → MayLeave w (es ++ more) (answers ++ last) x z
  may_more first (inl is) = inl (is ∙ same)
  may_more first (inr (inl is)) = inr (inl (pending_next w mid es more answers last z run is))
  may_more (inl is) (inr (inr still)) = inl (still.0 ∙ (is ∙ (sym (keep_ends mid more last still.1) ∙ same)))
  may_more (inr (inl is)) (inr (inr still)) =
      inr (inl (subst (λ v. IsPending w (es ++ more) (answers ++ last) v) (sym still.0)
      (pending_first w mid es more answers last y run is still.1)))
  may_more (inr (inr first)) (inr (inr still)) =
      inr (inr (still.0 ∙ first.0, keep_more w mid es more answers last run first.1 still.1))

-- ---- none, and one event

-- nothing was done
pub runs_none : (shown : Shown) (w : World) → shown.stands w → RunsAt shown shown w [] []
runs_none shown w stands = record {
  run = refl;
  ends = stands;
  left = λ idle was. was;
  settled = λ never. absurd never;
  beside = λ x was. (x, was, inr (inr (refl, tt)));
}

-- no event was done yet
pub runs_begun : (shown : Shown) → Runs shown shown [] []
runs_begun shown = record { honest = λ h. h; at = λ h w stands. runs_none shown w stands }

-- an event was not begun
pub runs_unasked : (shown : Shown) (w : World) (e : Event) (fault : StoreFault) → shown.stands w
    → RunsAt shown shown w (e ∷ []) (Failed fault ∷ [])
runs_unasked shown w e fault stands = record {
  run = refl;
  ends = stands;
  left = λ idle was. was;
  settled = λ never. absurd never;
  beside = λ x was. (x, was, inr (inr (refl, tt)));
}

module _ (old new : Shown) (w : World) (e : Event) where
  -- the event was answered
  pub runs_replied : (r : Reply) → DoesAt old new w (Ok r) (reply_to w e) (after w e)
      → RunsAt old new w (e ∷ []) (Replied r ∷ [])
  runs_replied r does = record {
    run = (does.answer, refl);
    ends = does.ok;
    left = λ idle was. does.crash.alone was;
    settled = λ settles. elim settles [
      | inl moved ↦ elim does.crash.settled [ inl alone ↦ alone | inr same ↦ absurd (moved.0 same.0) ]
      | inr never ↦ absurd never
    ];
    beside = λ x was. elim does.crash.settled [
      | inl alone ↦ (after w e, alone, inl refl)
      | inr same ↦ (x, subst (λ v. new.leaves v x) (sym same.0) (same.1 w x was), inr (inr (refl, (same.0, tt))))
    ];
  }

  -- the event met a fault
  pub runs_failed : {T : Type 0} (fault : StoreFault) (value : T)
      → DoesAt {T = T} old new w (Err fault) value (after w e)
      → RunsAt old new w (e ∷ []) (Failed fault ∷ [])
  runs_failed fault value does = record {
    run = refl;
    ends = does.err;
    left = λ idle was. subst (λ x. new.leaves w x) idle.0 (does.crash.either was);
    settled = λ never. absurd never;
    beside = λ x was. elim does.crash.failed [
      | inl two ↦ (after w e, two, inr (inl (inl (refl, tt))))
      | inr none ↦ (x, none w x was, inr (inr (refl, tt)))
    ];
  }

  -- the event was answered and changed nothing, and its answer was lost
  pub runs_lost : {T : Type 0} (x value : T) (fault : StoreFault) → DoesAt old new w (Ok x) value (after w e)
      → after w e ≡ w
      → RunsAt old new w (e ∷ []) (Failed fault ∷ [])
  runs_lost answer value fault does same = record {
    run = refl;
    ends = subst new.stands same does.ok;
    left = λ idle was. subst (λ x. new.leaves x x) same (does.crash.alone was);
    settled = λ never. absurd never;
    beside = λ x was. elim does.crash.settled [
      | inl alone ↦ (w, subst (λ v. new.leaves v v) same alone, inl refl)
      | inr still ↦ (x, still.1 w x was, inr (inr (refl, tt)))
    ];
  }

-- ---- more events

module _ (old mid new : Shown) where
  -- two runs of a store in one world, one after the other, are one run of all their events
  at_joined : (w : World) (events more : List Event) (answers last : List Answer) → RunsAt old mid w events answers
      → RunsAt mid new (world_after w events answers) more last → RunsAt old new w (events ++ more) (answers ++ last)
  at_joined w events more answers last first next =
      let between = world_after w events answers in
      let end = world_after between more last in
      let run = run_more w between end events more answers last first.run next.run in
      let same = run_end w end (events ++ more) (answers ++ last) run in
      record {
        run = subst (λ x. Run w (events ++ more) (answers ++ last) x) same run;
        ends = subst (λ x. new.stands x) same next.ends;
        left = λ idle was.
            let halves = idle_split w between events more answers last first.run idle in
            subst (λ x. new.leaves x x) same (next.left halves.1 (first.left halves.0 was));
        settled = λ settles. subst (λ x. new.leaves x x) same
            (elim (settles_split w between events more answers last first.run settles) [
              | inl both ↦ next.left both.1 (first.settled both.0)
              | inr later ↦ next.settled later
            ]);
        beside = λ x was.
            let y = first.beside x was in
            let z = next.beside y.0 y.1 in (
              z.0,
              subst (λ v. new.leaves v z.0) same z.1,
              may_more w events more answers last first.run same x y.0 z.0 y.2 z.2,
            );
      }

  pub runs_joined : (events more : List Event) (answers last : List Answer) → Runs old mid events answers
      → Runs mid new more last
      → Runs old new (events ++ more) (answers ++ last)
  runs_joined events more answers last first next = record {
    honest = λ h. first.honest (next.honest h);
    at = λ h w stands. let so = first.at (next.honest h) w stands in
        at_joined w events more answers last so (next.at h _ so.ends);
  }

  pub runs_push : (events : List Event) (i : ℕ) (e : Event) (answers : List Answer) (a : Answer) → i < length events
      → e ≡ get_or events i e
      → Runs old mid (take i events) answers → Runs mid new (e ∷ []) (a ∷ [])
      → Runs old new (take (i + 1) events) (answers ++ a ∷ [])
  runs_push events i e answers a below is so last =
      subst (λ es. Runs old new es (answers ++ a ∷ [])) (sym (take_more events i e below))
      (runs_joined (take i events) (get_or events i e ∷ []) answers (a ∷ []) so
      (subst (λ x. Runs mid new (x ∷ []) (a ∷ [])) is last))
