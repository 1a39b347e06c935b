-- A writer whose time may begin anew.
use Rattle.std.proofs.Common.{ℕ, ◌≡◌, refl, List, [], ◌∷◌, true, Option, None, arith}
use Rattle.std.proofs.Math.Logic.{∥∥₁_elim, ∥∥₁_map, ∥∥₁_prop}
use Rattle.std.specs.declared.time.Instant.{Instant}
use Rattle.histories.specs.declared.call.Call.{Call}
use Rattle.histories.specs.Timing.{KeepsEach, SinceLast, StaysSince}
use Rattle.histories.proofs.TimingLemmas.{kept}

module _ (allowed : ℕ → ℕ) (old : List Call) where
  -- no call came
  pub kept_same : (calls : List Call) → calls ≡ old → KeepsEach allowed old calls
  kept_same calls same = ∣ ([], ∣ ([], same, tt) ∣₁) ∣₁

  begins : (calls : List Call) → KeepsEach allowed old calls → SinceLast allowed old None 0 calls
  begins calls each = ∣ (
    calls,
    each,
    ∣ record {
      since = [];
      same = refl;
      each = tt;
      began = λ now. refl;
      exact = omega arith;
      stopped = λ never. absurd (let e = never in cc);
      unshut = λ never. never;
    } ∣₁,
  ) ∣₁

  -- a time that has not begun starts a stretch
  pub begun : (first : Option Instant) (moved : ℕ) (calls : List Call) → first ≡ None → moved ≡ 0
      → KeepsEach allowed old calls → SinceLast allowed old first moved calls
  begun first moved calls none zero each = rw (none, zero) (begins calls each)

  -- the last stretch may end at any call
  pub ended : (first : Option Instant) (moved : ℕ) (calls : List Call) → SinceLast allowed old first moved calls
      → KeepsEach allowed old calls
  ended first moved calls since = ∥∥₁_elim since ∥∥₁_prop (λ s.
      ∥∥₁_map s.1 (λ e. (s.0 ∷ e.0, (e.1, kept first moved true calls s.2))))

  -- the last stretch goes on
  pub goes_on : (first first_new : Option Instant) (moved moved_new : ℕ) (calls calls_new : List Call)
      → StaysSince allowed first first_new moved moved_new calls calls_new
      → SinceLast allowed old first moved calls → SinceLast allowed old first_new moved_new calls_new
  goes_on first first_new moved moved_new calls calls_new stays since =
      ∥∥₁_map since (λ s. (s.0, s.1, stays s.0 s.2))
