-- Whether reads may wait. Lists of calls have the last call first.
use Rattle.std.specs.Prelude.{◌≡◌, Bool, true, false, List, [], ◌∷◌, ◌++◌, ⊤}
use Rattle.histories.specs.Timing.{IsStopped}
use Rattle.histories.specs.declared.call.Call.{Call}
use Rattle.histories.specs.declared.call.Call.TheVariants.{Shows, Unshown, Bounds, Unbound, Stops, Begins, Moves}
use Rattle.histories.specs.declared.call.Call.TheVariants.{Refused, Shuts}

-- each read among these calls began after waits had been ruled out by one of them
abbrev pub EachAtOnce : List Call → Type 0
EachAtOnce [] = ⊤
EachAtOnce (Shows now ∷ before) = EachAtOnce before
EachAtOnce (Unshown ∷ before) = EachAtOnce before
EachAtOnce (Bounds longest ∷ before) = EachAtOnce before
EachAtOnce (Unbound longest ∷ before) = EachAtOnce before
EachAtOnce (Stops ∷ before) = EachAtOnce before
EachAtOnce (Begins ∷ before) = IsStopped before × EachAtOnce before
EachAtOnce (Moves bytes ∷ before) = EachAtOnce before
EachAtOnce (Refused ∷ before) = EachAtOnce before
EachAtOnce (Shuts ∷ before) = EachAtOnce before

-- where reads may wait, none of these calls ruled waits out; where they may not, each read began after one that did
abbrev pub WaitsBy : Bool → List Call → Type 0
WaitsBy true since = ¬ IsStopped since
WaitsBy false since = EachAtOnce since

-- from old to new it was so
abbrev pub WaitsIf : Bool → List Call → List Call → Type 0
WaitsIf may_wait old new = ∥ ((since : List Call) × (new ≡ since ++ old) × WaitsBy may_wait since) ∥₁

-- ---- what a reader in time knows

-- These calls came since the start, with the ones at it. So it was, and if reads may not wait, waits were ruled out.
pub record WaitsSince (may_wait : Bool) (start calls : List Call) : Type 0 where
  pub since : List Call
  pub same : calls ≡ since ++ start
  pub each : WaitsBy may_wait since
  pub stopped : may_wait ≡ false → IsStopped since
