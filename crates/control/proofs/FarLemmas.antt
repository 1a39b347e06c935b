-- What a ping is told while a copy is made.
use Rattle.std.specs.Prelude.{◌||◌, IfOk}
use Rattle.std.proofs.Common.{Bool, ℕ, ◌+◌, ◌≡◌, subst, List, Option, Result, Ok, Err}
use Rattle.histories.specs.Account.{Account}
use Rattle.histories.specs.Calls.{Reads, Writes}
use Rattle.interleave.specs.declared.between.CopyProgress.{CopyProgress}
use Rattle.socket.specs.History.{Door, EndsOperator}
use Rattle.world.specs.Store.{Shown}
use Rattle.world.specs.declared.registry.StoreFault.{StoreFault}
use Rattle.engine.specs.declared.fault.Io.{Io}
use Rattle.control.specs.Copying.{Making, IsBusy, IsOnlyRead}
use Rattle.control.specs.Metrics.{TellsKept}
use Rattle.control.specs.Finds.{WritesAndDoes}
use Rattle.control.specs.Health.{IsPinged}
use Rattle.control.specs.Pinging.{TellsHowFar, TellsPing}
use Rattle.control.specs.Serving.{ObeysMeanwhile}
use Rattle.control.specs.Reserve.{Lent}
use Rattle.control.specs.Traces.{Log, UsesAndTells}
use Rattle.control.specs.Visits.{ObeysOne}
use Rattle.socket.specs.declared.callers.Caller.{Caller}
use Rattle.control.specs.declared.health.Metrics.{Metrics}
use Rattle.control.specs.declared.health.Health.{Health}
use Rattle.control.specs.declared.progress.Progress.{Progress}
use Rattle.control.specs.declared.tally.Tally.{Tally}
use Rattle.control.specs.declared.control_reply.ControlReply.{ControlReply}
use Rattle.control.specs.declared.control_reply.ControlReply.TheVariants as spoken
use Rattle.control.specs.declared.traffic.Traffic.{Traffic}

-- the lines of a health that are told tell how far the copy is, or of none, where this is known of its figures
pub tells_how_far : (far : Option CopyProgress) (known : Metrics → Type 0) (traffic : Traffic)
    (copied : Option (List ℕ))
    (pinged : Result Health StoreFault → Type 0) (told : Result ControlReply Io)
    → IfOk told (TellsPing (TellsKept known traffic copied far) pinged) → IfOk told (TellsHowFar far)
tells_how_far far known traffic copied pinged (Ok (spoken.Health lines)) (h, came, is, same) = (h, is.how_far, same)
tells_how_far far known traffic copied pinged (Ok (spoken.Outcome outcome)) tells = tt
tells_how_far far known traffic copied pinged (Ok (spoken.List lines)) tells = tt
tells_how_far far known traffic copied pinged (Err e) tells = tt

module _ {O : Type 0} (heeded : O → Account × Reads) (told : O → Option (List ℕ) × Writes) {S : Type 0}
    (shown : S → Shown) (made : S → S → Making → Type 0)
    (counted : S → S → ℕ → Type 0) where
  abbrev Obeyed : Tally → O → O → Bool → S → S → Type 0
  Obeyed tally operator gone stops s t = ObeysOne heeded told (made s t)
      (IsPinged tally (shown s).failures (shown t).failures (counted s t)) (λ _. Unit {0})
      (λ making. IsOnlyRead (shown s) (shown t) × IsBusy making) operator gone stops (shown s) (shown t)

  -- an operator was obeyed while a copy is made, with a tally that is that of the moment, and ended
  pub obeys_meanwhile : {P : Type 0} (far : Option CopyProgress) (tally : Tally) (operator gone : O) (stops : Bool)
      (door end : Door (Caller P O)) (p q : Progress) (log log_new : Log) (room room_new : Lent) (s t : S)
      → (o : Obeyed tally operator gone stops s t) → IfOk o.audience.told (TellsHowFar far)
      → WritesAndDoes (UsesAndTells o.audience.heard o.audience.told) log.0 log_new.0 room room_new
      → log_new.1 ≡ log.1 → tally ≡ p.tally
      → EndsOperator door end gone → q.tally ≡ p.tally → q.left ≡ p.left → q.taken ≡ p.taken + 1 → q.stops ≡ (p.stops || stops)
      → ObeysMeanwhile heeded told shown made counted operator far door end p q log log_new room room_new s t
  obeys_meanwhile far tally operator gone stops door end p q log log_new room room_new s t o tells traces faults same
      ended tally_q left taken ends =
      let now : (x : Obeyed p.tally operator gone stops s t) × IfOk x.audience.told (TellsHowFar far)
      × WritesAndDoes (UsesAndTells x.audience.heard x.audience.told) log.0 log_new.0 room room_new =
      subst (λ u. (x : Obeyed u operator gone stops s t) × IfOk x.audience.told (TellsHowFar far)
      × WritesAndDoes (UsesAndTells x.audience.heard x.audience.told) log.0 log_new.0 room room_new)
      same (o, tells, traces) in
      record {
        stops = stops;
        gone = gone;
        obeys = now.0;
        ended = ended;
        tally = tally_q;
        left = left;
        taken = taken;
        ends = ends;
        tells = now.1;
        traces = now.2;
        faults = faults;
      }
