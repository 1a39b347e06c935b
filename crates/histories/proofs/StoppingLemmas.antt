-- One more call of a reader that may wait, or may not.
use Rattle.std.proofs.Common.{◌≡◌, refl, ap, ◌∙◌, List, [], ◌∷◌, Bool, true, false, Result, Ok, Err, MatchResult}
use Rattle.std.proofs.lemmas.Bool.{false≢true}
use Rattle.std.proofs.Math.Logic.{∥∥₁_map}
use Rattle.std.specs.declared.time.Duration.{Duration}
use Rattle.histories.specs.declared.call.Call.{Call}
use Rattle.histories.specs.declared.call.Call.TheVariants.{Shows, Unshown, Bounds, Unbound, Stops, Begins, Moves}
use Rattle.histories.specs.declared.call.Call.TheVariants.{Refused, Shuts}
use Rattle.histories.specs.Stopping.{WaitsBy, WaitsIf, WaitsSince}
use Rattle.histories.specs.Timing.{IsStopped}

-- this call does not rule waits out
abbrev pub IsNoStop : Call → Type 0
IsNoStop (Shows now) = Unit {0}
IsNoStop Unshown = Unit {0}
IsNoStop (Bounds longest) = Unit {0}
IsNoStop (Unbound longest) = Unit {0}
IsNoStop Stops = ⊥
IsNoStop Begins = Unit {0}
IsNoStop (Moves bytes) = Unit {0}
IsNoStop Refused = Unit {0}
IsNoStop Shuts = Unit {0}

still_stopped : (call : Call) (since : List Call) → IsStopped since → IsStopped (call ∷ since)
still_stopped (Shows now) since stopped = stopped
still_stopped Unshown since stopped = stopped
still_stopped (Bounds longest) since stopped = stopped
still_stopped (Unbound longest) since stopped = stopped
still_stopped Stops since stopped = tt
still_stopped Begins since stopped = stopped
still_stopped (Moves bytes) since stopped = stopped
still_stopped Refused since stopped = stopped
still_stopped Shuts since stopped = stopped

waits_by : (may_wait : Bool) (call : Call) (since : List Call) → IsNoStop call → (may_wait ≡ false → IsStopped since)
    → WaitsBy may_wait since → WaitsBy may_wait (call ∷ since)
waits_by true (Shows now) since calm stopped each = each
waits_by true Unshown since calm stopped each = each
waits_by true (Bounds longest) since calm stopped each = each
waits_by true (Unbound longest) since calm stopped each = each
waits_by true Stops since calm stopped each = absurd calm
waits_by true Begins since calm stopped each = each
waits_by true (Moves bytes) since calm stopped each = each
waits_by true Refused since calm stopped each = each
waits_by true Shuts since calm stopped each = each
waits_by false (Shows now) since calm stopped each = each
waits_by false Unshown since calm stopped each = each
waits_by false (Bounds longest) since calm stopped each = each
waits_by false (Unbound longest) since calm stopped each = each
waits_by false Stops since calm stopped each = absurd calm
waits_by false Begins since calm stopped each = (stopped refl, each)
waits_by false (Moves bytes) since calm stopped each = each
waits_by false Refused since calm stopped each = each
waits_by false Shuts since calm stopped each = each

module _ {may_wait : Bool} {start : List Call} where
  -- no call came, and reads may wait
  pub waits_none : (calls : List Call) → may_wait ≡ true → calls ≡ start → ∥ WaitsSince may_wait start calls ∥₁
  waits_none calls may same = rw may (∣ record {
    since = [];
    same = same;
    each = λ never. never;
    stopped = λ is. absurd (false≢true (let e = is in cc));
  } ∣₁)

  -- waits were ruled out at first, and reads may not wait
  pub waits_stopped : (calls calls_new : List Call) → may_wait ≡ false → calls ≡ start → calls_new ≡ Stops ∷ calls
      → ∥ WaitsSince may_wait start calls_new ∥₁
  waits_stopped calls calls_new may same noted = rw may (∣ record {
    since = Stops ∷ [];
    same = noted ∙ ap (λ l. Stops ∷ l) same;
    each = tt;
    stopped = λ is. tt;
  } ∣₁)

  -- a call that does not rule waits out
  pub waits_more : (call : Call) (calls calls_new : List Call) → IsNoStop call → calls_new ≡ call ∷ calls
      → ∥ WaitsSince may_wait start calls ∥₁ → ∥ WaitsSince may_wait start calls_new ∥₁
  waits_more call calls calls_new calm noted since = ∥∥₁_map since (λ s. record {
    since = call ∷ s.since;
    same = noted ∙ ap (λ l. call ∷ l) s.same;
    each = waits_by may_wait call s.since calm s.stopped s.each;
    stopped = λ is. still_stopped call s.since (s.stopped is);
  })

  -- the wait was bounded, or could not be
  pub waits_bounded : {E : Type 0} (result : Result (Unit {0}) E) (longest : Duration) (calls calls_new : List Call)
      → MatchResult result (λ u. calls_new ≡ Bounds longest ∷ calls) (λ e. calls_new ≡ Unbound longest ∷ calls)
      → ∥ WaitsSince may_wait start calls ∥₁ → ∥ WaitsSince may_wait start calls_new ∥₁
  waits_bounded (Ok u) longest calls calls_new noted since = waits_more (Bounds longest) calls calls_new tt noted since
  waits_bounded (Err e) longest calls calls_new noted since =
      waits_more (Unbound longest) calls calls_new tt noted since

  -- so it was
  pub waits_kept : (calls : List Call) → ∥ WaitsSince may_wait start calls ∥₁ → WaitsIf may_wait start calls
  waits_kept calls since = ∥∥₁_map since (λ s. (s.since, s.same, s.each))
