-- A call that reads and then changes.
use Rattle.std.proofs.Common.{◌≡◌, sym, subst, Result, Ok, Err, Some, None, inl, inr}
use Rattle.std.specs.Prelude.{IsErrAnd}
use Rattle.modver.specs.SemanticVersion.{version_text}
use Rattle.world.specs.declared.entry.Entry.{Entry}
use Rattle.world.specs.declared.entry.Holder.{Holder}
use Rattle.world.specs.Standing.{standing}
use Rattle.world.specs.World.{World, count}
use Rattle.world.specs.Store.{Shown, AddsNothing, AfterCrash, DoesAt, DoesWhere, Reads, ReadsAt}
use Rattle.world.specs.declared.registry.StoreFault.{StoreFault}
use Rattle.machine.specs.declared.request.Publish.{Publish}
use Rattle.machine.specs.declared.reply.Decision.{Decision}
use Rattle.machine.specs.Machine.{after_decision, decided_by_shelf, decision, offered, own_refusal}
use Rattle.machine.specs.Publishing.{PublishesTo, CarriesOut}
use Rattle.world.proofs.Causes.{answers, handed_on, in_turn}
use Rattle.machine.proofs.Checks.{judged_by_shelf}

-- what a crash leaves after a change behind what adds nothing
pub crash_after : {T : Type 0} (old mid new : Shown) (w : World) (result : Result T StoreFault) (next : World)
    → AddsNothing old mid
    → AfterCrash mid new w result next → AfterCrash old new w result next
crash_after old mid new w (Ok x) next adds crash = record {
  either = λ was. crash.either (adds w w was);
  alone = λ was. crash.alone (adds w w was);
  settled = elim crash.settled [
    | inl alone ↦ inl alone
    | inr same ↦ inr (same.0, λ x y was. same.1 x y (adds x y was))
  ];
  failed = tt;
}
crash_after old mid new w (Err fault) next adds crash = record {
  either = λ was. crash.either (adds w w was);
  alone = λ was. crash.alone (adds w w was);
  settled = tt;
  failed = elim crash.failed [ inl two ↦ inl two | inr none ↦ inr (λ x y was. none x y (adds x y was)) ];
}

-- a change after what adds nothing
pub after_read : {T : Type 0} (old mid new : Shown) (w : World) (result : Result T StoreFault) (value : T)
    (next : World) → AddsNothing old mid
    → DoesAt mid new w result value next → DoesAt old new w result value next
after_read old mid new w result value next adds does = record {
  answer = does.answer;
  ok = does.ok;
  err = does.err;
  crash = crash_after old mid new w result next adds does.crash;
}

-- what reads how an entry compares with what stands reads the decision on its publish
pub decision_read : (old new : Shown) (result : Result Decision StoreFault) (h : Holder) (p : Publish) (e : Entry)
    → own_refusal p h.right ≡ None → offered p ≡ Some e
    → Reads old new result
    (λ w. decided_by_shelf (standing w h.shelf p.path (version_text p.version) e) (count w h.shelf p.path))
    → Reads old new result (λ w. decision w (Some h) p)
decision_read old new result h p e passes handed read = record {
  honest = read.honest;
  at = λ honest w stands.
      subst (ReadsAt old new w result) (sym (judged_by_shelf w h p e passes handed)) (read.at honest w stands);
  cause = read.cause;
}

-- what reads and fails changes nothing
pub read_failed : {T U : Type 0} (old new : Shown) (fits : World → Type 0) (fault : StoreFault)
    (result : Result U StoreFault) (seen : World → T) (value : World → U) (next : World → World)
    → ((w x : World) → new.leaves w w → new.leaves w x)
    → IsErrAnd result (λ e. e ≡ fault) → Reads old new (Err fault) seen
    → DoesWhere fits old new result value next
read_failed old new fits fault (Ok x) seen value next wider on read = absurd on
read_failed old new fits fault (Err e) seen value next wider on read = record {
  honest = read.honest;
  at = λ honest w stands _.
      let so = read.at honest w stands in
      record {
        answer = tt;
        ok = tt;
        err = so.stays;
        crash = record {
          either = λ was. wider w (next w) (so.left w w was);
          alone = λ _. tt;
          settled = tt;
          failed = inr so.left;
        };
      };
  cause = handed_on old new fault (Err e) on read.cause;
}

-- a decision that was read and carried out
pub carried_out : (old mid new : Shown) (h : Holder) (p : Publish) (d : Decision)
    → Reads old mid (Ok d) (λ w. decision w (Some h) p) → CarriesOut mid new (Ok tt) h p d
    → PublishesTo old new (Ok d) h p
carried_out old mid new h p d read does = record {
  honest = λ honest. read.honest (does.honest honest);
  at = λ honest w stands there.
      let so = read.at (does.honest honest) w stands in
      let done = does.at honest w so.stays (there, sym so.answer) in
      subst (λ x. DoesAt old new w (Ok d) (decision w (Some h) p) (after_decision w (Some h) p x)) so.answer
      (after_read old mid new w (Ok d) (decision w (Some h) p) (after_decision w (Some h) p d) so.left (record {
        answer = so.answer;
        ok = done.ok;
        err = tt;
        crash = record {
          either = done.crash.either;
          alone = done.crash.alone;
          settled = done.crash.settled;
          failed = tt;
        };
      }));
  cause = in_turn old mid new d (Ok d) read.cause (answers mid new d does.cause.no_fewer);
}

-- a decision that was read and not carried out
pub not_carried_out : (old mid new : Shown) (h : Holder) (p : Publish) (d : Decision) (fault : StoreFault)
    (result : Result Decision StoreFault)
    → IsErrAnd result (λ e. e ≡ fault) → Reads old mid (Ok d) (λ w. decision w (Some h) p)
    → CarriesOut mid new (Err fault) h p d → PublishesTo old new result h p
not_carried_out old mid new h p d fault (Ok x) on read does = absurd on
not_carried_out old mid new h p d fault (Err e) on read does = record {
  honest = λ honest. read.honest (does.honest honest);
  at = λ honest w stands there.
      let so = read.at (does.honest honest) w stands in
      let done = does.at honest w so.stays (there, sym so.answer) in
      subst (λ x. DoesAt old new w (Err e) (decision w (Some h) p) (after_decision w (Some h) p x)) so.answer
      (after_read old mid new w (Err e) (decision w (Some h) p) (after_decision w (Some h) p d) so.left (record {
        answer = tt;
        ok = tt;
        err = done.err;
        crash = record {
          either = done.crash.either;
          alone = λ _. tt;
          settled = tt;
          failed = done.crash.failed;
        };
      }));
  cause = in_turn old mid new d (Err e) read.cause (handed_on mid new fault (Err e) on does.cause);
}
