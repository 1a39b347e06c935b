-- The first message of a stream.
use Rattle.std.proofs.Common.{◌≡◌, ℕ, List, [], ◌++◌, Option, Result, Ok, Err, inl, inr, refl, sym, ap, ◌∙◌, subst}
use Rattle.std.specs.Io.KnownBytes.{Keeps}
use Rattle.std.proofs.KnownBytes.{Appends-kept, Keeps-trans}
use Rattle.histories.specs.Account.{Account}
use Rattle.framing.specs.Message.{ReadsMessage}
use Rattle.framing.specs.Framing.{Framing, IsUnfinished}
use Rattle.framing.proofs.StreamLemmas.{unfinished_nothing}
use Rattle.world.specs.Store.{Shown}
use Rattle.engine.specs.First.{First, Answers, Closes, IsFirstHeard, HearsFirst, ServesHeard, first_bytes, first_status}
use Rattle.engine.specs.Served.{IsClosing}
use Rattle.engine.specs.Session.{IsNext, TakesNext, AnswersNext, EndsBy, handled_of, handled_status}
use Rattle.engine.specs.declared.fault.Io.{Io}
use Rattle.engine.specs.declared.fault.Io.TheVariants as io
use Rattle.engine.specs.declared.session.Handled.{Handled}

-- what comes next comes first if nothing is held
pub first_next : (old new : Framing) (u u' : Account) (first : First) → old.held ≡ [] → TakesNext old new u u' first
    → HearsFirst u u' first
first_next old new u u' first none next =
    let near = next.near (unfinished_nothing old.held none) in
    record {
      bytes = next.bytes;
      gives = next.consumed;
      stands = by_first first next.stands;
      early = near.early;
      last = near.late;
      cut = near.cut;
      few = near.few;
      unfinished = subst (λ (held : List ℕ). IsUnfinished (held ++ near.early)) none near.unfinished;
    }
  where
    by_first : (first : First) → IsNext old new u' next.bytes first → IsFirstHeard u' next.bytes first
    by_first (Answers x) (reads, sound) =
        (new.held, subst (λ (held : List ℕ). ReadsMessage (held ++ next.bytes) x.message new.held) none reads)
    by_first (Closes closing) closes = λ more may.
        subst (λ (held : List ℕ). IsClosing (held ++ (next.bytes ++ more)) closing) none (closes more may)

status_of_handled : (first : First) → handled_status (handled_of first) ≡ first_status first
status_of_handled (Answers x) = refl
status_of_handled (Closes closing) = refl

-- the first `answer_next` of a stream and `finish` make what `answer_one` promises
pub first_handled : (old new : Shown) (u u' : Account) (w w' w'' : Option (List ℕ)) (held held_new : Framing)
    (handled : Result Handled Io)
    (result : Result (Option ℕ) Io) → held.held ≡ [] → AnswersNext old new u u' w w' held held_new handled → Keeps w' w''
    → EndsBy handled result
    → ServesHeard old new u u' w w'' result
first_handled old new u u' w w' w'' held held_new (Ok handled) (Ok status) none (first, next, through, is, appends) keeps
    ends = (
      first,
      first_next held held_new u u' first none next,
      through,
      ends ∙ ap handled_status is
          ∙ status_of_handled first,
      Appends-kept w w' w'' (first_bytes first) appends keeps,
    )
first_handled old new u u' w w' w'' held held_new (Ok handled) (Err io.Read) none answers keeps ends = cc
first_handled old new u u' w w' w'' held held_new (Ok handled) (Err io.Write) none (first, next, through, is, appends)
    keeps ends = (
      first,
      first_next held held_new u u' first none next,
      through,
      inr (Appends-kept w w' w'' (first_bytes first) appends keeps),
    )
first_handled old new u u' w w' w'' held held_new (Err io.Read) result none (bytes, consumed, waits, through, unwritten)
    keeps ends =
    subst (ServesHeard old new u u' w w'') (sym ends) (
      bytes,
      consumed,
      subst (λ (held : List ℕ). IsUnfinished (held ++ bytes)) none waits,
      through,
      Keeps-trans w w' w'' unwritten keeps,
    )
first_handled old new u u' w w' w'' held held_new (Err io.Write) result none
    (first, next, through, (begun, begins, appends)) keeps ends =
    subst (ServesHeard old new u u' w w'') (sym ends) (
      first,
      first_next held held_new u u' first none next,
      through,
      inl (begun, begins, Appends-kept w w' w'' begun appends keeps),
    )
