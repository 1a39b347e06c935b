-- A store goes through tasks: none, one, and more after others.
use Rattle.std.specs.Prelude.{◌||◌}
use Rattle.std.proofs.Common.{◌≡◌, ◌+◌, ◌≤◌, Bool, true, false, List, [], ◌∷◌, ◌++◌, length, map, refl, sym, subst, ap}
use Rattle.std.proofs.Common.{◌∙◌, inl, inr, Result, Ok, Err, arith, append-nil}
use Rattle.std.proofs.lemmas.List.{map-append}
use Rattle.world.specs.World.{World}
use Rattle.world.specs.Store.{Shown, Does, DoesAt}
use Rattle.world.specs.declared.registry.RegistryReply.{RegistryReply}
use Rattle.world.specs.declared.registry.StoreFault.{StoreFault}
use Rattle.machine.specs.Machine.{after, reply_to}
use Rattle.machine.specs.declared.reply.Reply.{Reply}
use Rattle.machine.specs.declared.reply.Reply.TheVariants.{Registry}
use Rattle.machine.specs.Runs.{RunsAt}
use Rattle.machine.proofs.Runs.{runs_none, runs_replied, runs_failed, runs_joined, grown_more, grown_before}
use Rattle.engine.specs.Exchange.{Exchange}
use Rattle.engine.specs.Store.{GoesThrough}
use Rattle.engine.proofs.RunLemmas.{world_more, met_either}
use Rattle.control.specs.Copying.{IsOnlyRead}
use Rattle.control.specs.RegistryCommand.{event_of, outcome_in}
use Rattle.control.specs.Tasks.{Task, Asked, Ordered, task_event, task_answer, messages, AllCalm, LeavesTwo, StandsIf}
use Rattle.control.specs.Tasks.{world_at, GoesThroughTasks}
use Rattle.orders.specs.declared.command.RegistryCommand.{RegistryCommand}
use Rattle.orders.specs.declared.command.RegistryCommand.TheVariants.{TeamAdd, GroupAdd, KeyAdd}
use Rattle.orders.specs.declared.command.RegistryCommand.TheVariants.{KeyRevoke, KeysRevoke}
use Rattle.control.proofs.CrashLemmas.{leaves_still, leaves_more, world_step}

-- ---- none

-- an unchanged store goes through no tasks
pub tasks_none : (shown : Shown) → GoesThroughTasks shown shown [] false
tasks_none shown = record {
  runs = record {
    honest = λ h. h;
    at = λ h w stands. runs_none shown w stands;
  };
  left = λ h w stands was. was;
  settled = λ h w stands calm was. was;
  untouched = λ none stands h w x was. was;
  no_fewer = omega arith;
  device = λ met. absurd met;
}

-- an unchanged store was only read
pub read_none : (shown : Shown) → IsOnlyRead shown shown
read_none shown = record {
  honest = λ h. h;
  stays = λ h w stands. stands;
  left = λ h w x y stands was. was;
  no_fewer = omega arith;
}

read_runs : (old new : Shown) (w : World) → new.stands w → ((x y : World) → old.leaves x y → new.leaves x y)
    → RunsAt old new w [] []
read_runs old new w stands left = record {
  run = refl;
  ends = stands;
  left = λ idle was. left w w was;
  settled = λ never. absurd never;
  beside = λ x was. (x, left w x was, inr (inr (refl, tt)));
}

-- a store that was only read goes through no tasks
pub tasks_read : (old new : Shown) → IsOnlyRead old new → GoesThroughTasks old new [] true
tasks_read old new read = record {
  runs = record {
    honest = read.honest;
    at = λ h w stands. read_runs old new w (read.stays h w stands) (λ x y was. read.left h w x y stands was);
  };
  left = λ h w stands was. read.left h w w w stands was;
  settled = λ h w stands calm was. read.left h w w w stands was;
  untouched = λ none some h w x was. read.left h some.0 w x some.1 was;
  no_fewer = read.no_fewer;
  device = λ met. absurd met;
}

-- a store that stands for a world does so whether or not it was copied
pub stands_if : (copied : Bool) (shown : Shown) (w : World) → shown.stands w → StandsIf copied shown
stands_if false shown w stands = tt
stands_if true shown w stands = (w, stands)

stands_first : (b c : Bool) (shown : Shown) → StandsIf (b || c) shown → StandsIf b shown
stands_first false c shown some = tt
stands_first true c shown some = some

stands_next : (b c : Bool) (old mid : Shown) → ((w : World) → old.stands w → (x : World) × mid.stands x)
    → StandsIf (b || c) old
    → StandsIf c mid
stands_next b false old mid on some = tt
stands_next false true old mid on some = on some.0 some.1
stands_next true true old mid on some = on some.0 some.1

-- ---- one

-- a store that goes through the messages of one connection goes through their tasks
pub tasks_asked : (old new : Shown) (xs : List Exchange) → length xs ≤ 1 → GoesThrough old new xs
    → GoesThroughTasks old new (map Asked xs) false
tasks_asked old new [] few through = record {
  runs = through.runs;
  left = through.left;
  settled = λ h w stands calm was. through.settled h w stands tt was;
  untouched = λ none stands. through.untouched refl;
  no_fewer = through.no_fewer;
  device = through.device;
}
tasks_asked old new (x ∷ []) few through = record {
  runs = through.runs;
  left = through.left;
  settled = λ h w stands calm was. through.settled h w stands calm was;
  untouched = λ none. cc;
  no_fewer = through.no_fewer;
  device = through.device;
}
tasks_asked old new (x ∷ y ∷ more) few through = absurd (omega (arith, few))

module _ (old new : Shown) (w : World) where
  -- what was done for a registry command is what the machine does for its event
  by_event : (o : RegistryCommand) (told : Result RegistryReply StoreFault)
      → DoesAt old new w told (outcome_in w o) (after w (event_of o))
      → (outcome : RegistryReply) × (reply_to w (event_of o) ≡ Registry outcome)
      × DoesAt old new w told outcome (after w (event_of o))
  by_event (TeamAdd name group) told does = (_, refl, does)
  by_event (GroupAdd name) told does = (_, refl, does)
  by_event (KeyAdd shelf key right) told does = (_, refl, does)
  by_event (KeyRevoke key) told does = (_, refl, does)
  by_event (KeysRevoke shelf) told does = (_, refl, does)

  -- a registry command that was done got the machine's reply to its event
  pub replied : (o : RegistryCommand) (r : RegistryReply)
      → DoesAt old new w (Ok r) (outcome_in w o) (after w (event_of o))
      → DoesAt {T = Reply} old new w (Ok (Registry r)) (reply_to w (event_of o)) (after w (event_of o))
  replied o r does = let so = by_event o (Ok r) does in record {
    answer = ap Registry so.2.answer ∙ sym so.1;
    ok = does.ok;
    err = tt;
    crash = record { either = does.crash.either; alone = does.crash.alone; settled = does.crash.settled; failed = tt };
  }

-- a store that carried out a registry command goes through one task
pub tasks_ordered : (old new : Shown) (o : RegistryCommand) (told : Result RegistryReply StoreFault)
    → Does old new told (λ w. outcome_in w o) (λ w. after w (event_of o))
    → GoesThroughTasks old new (Ordered o told ∷ []) false
tasks_ordered old new o (Ok r) does = record {
  runs = record {
    honest = λ h. does.honest h;
    at = λ h w stands. runs_replied old new w (event_of o) (Registry r) (replied old new w o r (does.at h w stands tt));
  };
  left = λ h w stands was. (does.at h w stands tt).crash.either was;
  settled = λ h w stands calm was. (does.at h w stands tt).crash.alone was;
  untouched = λ none. cc;
  no_fewer = does.cause.no_fewer;
  device = λ met. elim met [ inl same ↦ cc | inr never ↦ absurd never ];
}
tasks_ordered old new o (Err fault) does = record {
  runs = record {
    honest = λ h. does.honest h;
    at = λ h w stands. runs_failed old new w (event_of o) fault (outcome_in w o) (does.at h w stands tt);
  };
  left = λ h w stands was. (does.at h w stands tt).crash.either was;
  settled = λ h w stands calm was. elim calm.0 [
    | inl never ↦ absurd never
    | inr idle ↦ subst (λ x. new.leaves w x) idle ((does.at h w stands tt).crash.either was)
  ];
  untouched = λ none. cc;
  no_fewer = does.cause.no_fewer;
  device = λ met. elim met [ inl same ↦ does.cause.device cc | inr never ↦ absurd never ];
}

-- ---- more after others

calm_both : (w : World) (ts us : List Task) → AllCalm w (ts ++ us) → AllCalm w ts × AllCalm (world_at w ts) us
calm_both w [] us all = (tt, all)
calm_both w (t ∷ ts) us all =
    let both = calm_both (world_at w (t ∷ [])) ts us all.1 in
    ((all.0, both.0), subst (λ v. AllCalm v us) (world_step w t ts) both.1)

none_of : (ts us : List Task) → ts ++ us ≡ [] → (ts ≡ []) × (us ≡ [])
none_of [] us e = (refl, e)
none_of (t ∷ ts) us e = cc

pub messages_append : (ts us : List Task) → messages (ts ++ us) ≡ messages ts + messages us
messages_append [] us = omega arith
messages_append (Asked x ∷ ts) us = let e = messages_append ts us in omega (arith, e)
messages_append (Ordered o told ∷ ts) us = messages_append ts us

module _ (old mid new : Shown) (ts : List Task) (b : Bool) (first : GoesThroughTasks old mid ts b) where
  -- a crash after more tasks leaves one of two worlds
  leaves_after : (us : List Task) (c : Bool) → GoesThroughTasks mid new us c → new.is_honest → (w : World)
      → old.stands w → old.leaves w w
      → LeavesTwo new w (ts ++ us)
  leaves_after [] c next h w stands was =
      let honest = next.runs.honest h in
      let there = stands_if c mid _ ((first.runs.at honest w stands).ends) in
      subst (LeavesTwo new w) (sym (append-nil ts))
      (leaves_still mid new (next.untouched refl there h) w ts (first.left honest w stands was))
  leaves_after (u ∷ us) c next h w stands was =
      let honest = next.runs.honest h in
      leaves_more new w ts u us
      (λ all. next.left h _ (first.runs.at honest w stands).ends (first.settled honest w stands all was))

  module _ (us : List Task) (c : Bool) where
    same_world : mid.is_honest → (w : World) → old.stands w → world_at (world_at w ts) us ≡ world_at w (ts ++ us)
    same_world h w stands =
        rw (map-append task_event ts us, map-append task_answer ts us)
        (world_more w _ (map task_event ts) (map task_event us) (map task_answer ts) (map task_answer us)
        (first.runs.at h w stands).run)

    -- a store that goes through some tasks and then through more goes through all of them
    pub tasks_more : GoesThroughTasks mid new us c → GoesThroughTasks old new (ts ++ us) (b || c)
    tasks_more next = record {
      runs = rw (map-append task_event ts us, map-append task_answer ts us)
          (runs_joined old mid new (map task_event ts) (map task_event us) (map task_answer ts) (map task_answer us)
          first.runs next.runs);
      left = leaves_after us c next;
      settled = λ h w stands calm was.
          let both = calm_both w ts us calm in
          let honest = next.runs.honest h in
          let there = (first.runs.at honest w stands).ends in
          subst (λ x. new.leaves x x) (same_world honest w stands)
          (next.settled h _ there both.1 (first.settled honest w stands both.0 was));
      untouched = λ none some h w x was.
          let both = none_of ts us none in
          let honest = next.runs.honest h in
          let there = stands_next b c old mid (λ v stands. (_, (first.runs.at honest v stands).ends)) some in
          next.untouched both.1 there h w x (first.untouched both.0 (stands_first b c old some) honest w x was);
      no_fewer = omega (arith, first.no_fewer, next.no_fewer);
      device = λ met.
          let either = met_either (map task_answer ts) (map task_answer us)
          (rw (map-append task_answer ts us) at met) in
          elim either [
            | inl earlier ↦ grown_more _ _ _ (first.device earlier) next.no_fewer
            | inr later ↦ grown_before _ _ _ first.no_fewer (next.device later)
          ];
    }
