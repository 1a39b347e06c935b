-- One more call of a stream in time.
use Rattle.std.proofs.Common.{ℕ, ◌+◌, ◌-◌, ◌^◌, ◌<◌, ◌≤◌, min, ◌≡◌, refl, sym, ap, ◌∙◌, subst, List, []}
use Rattle.std.proofs.Common.{◌∷◌, Bool, false, Option, Some, None, Result, Ok, Err}
use Rattle.std.proofs.Common.{MatchOption, MatchResult, IfSome, IfErr, OnOk, arith}
use Rattle.std.proofs.Math.Logic.{∥∥₁_map}
use Rattle.std.specs.Duration.{as_nanos}
use Rattle.std.specs.Time.{instant_nanos}
use Rattle.std.specs.declared.time.Duration.{Duration}
use Rattle.std.specs.declared.time.Instant.{Instant}
use Rattle.histories.specs.declared.call.Call.{Call}
use Rattle.histories.specs.declared.call.Call.TheVariants.{Shows, Unshown, Bounds, Unbound, Stops, Begins, Moves}
use Rattle.histories.specs.declared.call.Call.TheVariants.{Refused}
use Rattle.histories.specs.declared.calls.Calls.{Calls}
use Rattle.histories.specs.Timing.{first_shown, IsStopped, IsLeft, MayBegin, KeepsTime, BeganAt, Since}
use Rattle.histories.specs.Timing.{IsReady, IsOver, MayRefuse, IsLate}

-- what holds anyhow holds of a result that failed
pub if_failed : {T E X : Type 0} (result : Result T E) → X → IfErr result (λ e. X)
if_failed (Ok v) x = tt
if_failed (Err e) x = x

-- the time began at this reading, or before
abbrev pub BeginsBy : Option Instant → Option Instant → Instant → Type 0
BeginsBy first first_new now = MatchOption first (first_new ≡ Some now) (λ t. first_new ≡ Some t)

pub shown_began : (first first_new : Option Instant) (now : Instant) (since : List Call) → BeginsBy first first_new now
    → BeganAt first since
    → BeganAt first_new (Shows now ∷ since)
shown_began None first_new now since is at = rw is (λ n. at (instant_nanos now))
shown_began (Some t) first_new now since is at = rw is (λ n. at (instant_nanos now))

-- a call that is no reading of the clock
pub still_began : (first : Option Instant) (since since_new : List Call)
    → ((now : ℕ) → first_shown now since_new ≡ first_shown now since)
    → BeganAt first since → BeganAt first since_new
still_began None since since_new same at = λ n. same n ∙ at n
still_began (Some t) since since_new same at = λ n. same n ∙ at n

module _ {allowed : ℕ → ℕ} {start : List Call} where
  abbrev pub shown : (first first_new : Option Instant) (moved moved_new : ℕ) (waits : Bool)
      (calls calls_new : List Call) (now : Instant)
      → BeginsBy first first_new now → moved_new ≡ moved → calls_new ≡ Shows now ∷ calls
      → Since allowed start first moved waits calls → Since allowed start first_new moved_new waits calls_new
  shown first first_new moved moved_new waits calls calls_new now is unmoved same s = record {
    since = Shows now ∷ s.since;
    same = same ∙ ap (λ l. Shows now ∷ l) s.same;
    each = s.each;
    began = shown_began first first_new now s.since is s.began;
    exact = unmoved ∙ s.exact;
    stopped = λ w. subst IsStopped (sym same) (s.stopped w);
    unshut = s.unshut;
  }

  abbrev pub bounded : (first : Option Instant) (moved : ℕ) (waits : Bool) (calls calls_new : List Call)
      (longest : Duration)
      → calls_new ≡ Bounds longest ∷ calls
      → Since allowed start first moved waits calls → Since allowed start first moved waits calls_new
  bounded first moved waits calls calls_new longest same s = record {
    since = Bounds longest ∷ s.since;
    same = same ∙ ap (λ l. Bounds longest ∷ l) s.same;
    each = s.each;
    began = still_began first s.since (Bounds longest ∷ s.since) (λ n. refl) s.began;
    exact = s.exact;
    stopped = λ w. subst IsStopped (sym same) (s.stopped w);
    unshut = s.unshut;
  }

  abbrev pub unbounded : (first : Option Instant) (moved : ℕ) (waits : Bool) (calls calls_new : List Call)
      (longest : Duration)
      → calls_new ≡ Unbound longest ∷ calls
      → Since allowed start first moved waits calls → Since allowed start first moved waits calls_new
  unbounded first moved waits calls calls_new longest same s = record {
    since = Unbound longest ∷ s.since;
    same = same ∙ ap (λ l. Unbound longest ∷ l) s.same;
    each = s.each;
    began = still_began first s.since (Unbound longest ∷ s.since) (λ n. refl) s.began;
    exact = s.exact;
    stopped = λ w. subst IsStopped (sym same) (s.stopped w);
    unshut = s.unshut;
  }

  abbrev pub unshown : (first : Option Instant) (moved : ℕ) (waits : Bool) (calls calls_new : List Call)
      → calls_new ≡ Unshown ∷ calls
      → Since allowed start first moved waits calls → Since allowed start first moved waits calls_new
  unshown first moved waits calls calls_new same s = record {
    since = Unshown ∷ s.since;
    same = same ∙ ap (λ l. Unshown ∷ l) s.same;
    each = s.each;
    began = still_began first s.since (Unshown ∷ s.since) (λ n. refl) s.began;
    exact = s.exact;
    stopped = λ w. subst IsStopped (sym same) (s.stopped w);
    unshut = s.unshut;
  }

  -- waits were ruled out at first
  pub stopped_first : (first : Option Instant) (moved : ℕ) (calls calls_new : List Call) → first ≡ None → moved ≡ 0
      → calls ≡ start → calls_new ≡ Stops ∷ calls → ∥ Since allowed start first moved false calls_new ∥₁
  stopped_first first moved calls calls_new none zero same noted = rw (none, zero) (∣ record {
    since = Stops ∷ [];
    same = noted ∙ ap (λ l. Stops ∷ l) same;
    each = tt;
    began = λ now. refl;
    exact = omega arith;
    stopped = λ w. subst IsStopped (sym noted) tt;
    unshut = λ never. never;
  } ∣₁)

  begun : (first : Option Instant) (moved : ℕ) (waits : Bool) (calls calls_new : List Call) → calls_new ≡ Begins ∷ calls
      → (s : Since allowed start first moved waits calls) → MayBegin allowed start s.since
      → Since allowed start first moved waits calls_new
  begun first moved waits calls calls_new same s may = record {
    since = Begins ∷ s.since;
    same = same ∙ ap (λ l. Begins ∷ l) s.same;
    each = (may, s.unshut, s.each);
    began = still_began first s.since (Begins ∷ s.since) (λ n. refl) s.began;
    exact = s.exact;
    stopped = λ w. subst IsStopped (sym same) (s.stopped w);
    unshut = s.unshut;
  }

  refused : (first : Option Instant) (moved : ℕ) (waits : Bool) (calls calls_new : List Call)
      → calls_new ≡ Refused ∷ calls → (s : Since allowed start first moved waits calls) → MayRefuse allowed s.since
      → Since allowed start first moved waits calls_new
  refused first moved waits calls calls_new same s may = record {
    since = Refused ∷ s.since;
    same = same ∙ ap (λ l. Refused ∷ l) s.same;
    each = (may, s.each);
    began = still_began first s.since (Refused ∷ s.since) (λ n. refl) s.began;
    exact = s.exact;
    stopped = λ w. subst IsStopped (sym same) (s.stopped w);
    unshut = s.unshut;
  }

  ended : (first : Option Instant) (moved moved_new : ℕ) (waits : Bool) (calls calls_new : List Call) (n : ℕ)
      → calls_new ≡ Moves n ∷ calls → moved_new ≡ min (moved + n) (2 ^ 64 - 1)
      → Since allowed start first moved waits calls → Since allowed start first moved_new waits calls_new
  ended first moved moved_new waits calls calls_new n same count s = record {
    since = Moves n ∷ s.since;
    same = same ∙ ap (λ l. Moves n ∷ l) s.same;
    each = s.each;
    began = still_began first s.since (Moves n ∷ s.since) (λ k. refl) s.began;
    exact = omega (arith, count, s.exact);
    stopped = λ w. subst IsStopped (sym same) (s.stopped w);
    unshut = s.unshut;
  }

  is_left : (first first_new : Option Instant) (moved : ℕ) (waits : Bool) (calls : List Call) (now : Instant) (left : ℕ)
      → BeginsBy first first_new now → 0 < left
      → IfSome first_new (λ t. (instant_nanos now - instant_nanos t) + left ≡ allowed moved)
      → (s : Since allowed start first moved waits calls) → IsLeft allowed s.since now left
  is_left None first_new moved waits calls now left is some within s =
      let limit : (instant_nanos now - instant_nanos now) + left ≡ allowed moved = rw is at within in
      (some, rw (s.began (instant_nanos now)) (limit ∙ ap allowed s.exact))
  is_left (Some t) first_new moved waits calls now left is some within s =
      let limit : (instant_nanos now - instant_nanos t) + left ≡ allowed moved = rw is at within in
      (some, rw (s.began (instant_nanos now)) (limit ∙ ap allowed s.exact))

  is_over : (first first_new : Option Instant) (moved : ℕ) (waits : Bool) (calls : List Call) (now : Instant)
      → BeginsBy first first_new now
      → IfSome first_new (λ t. allowed moved ≤ instant_nanos now - instant_nanos t)
      → (s : Since allowed start first moved waits calls) → IsOver allowed s.since now
  is_over None first_new moved waits calls now is over s =
      let limit : allowed moved ≤ instant_nanos now - instant_nanos now = rw is at over in
      rw (s.began (instant_nanos now))
      (subst (λ m. allowed m ≤ instant_nanos now - instant_nanos now) s.exact limit)
  is_over (Some t) first_new moved waits calls now is over s =
      let limit : allowed moved ≤ instant_nanos now - instant_nanos t = rw is at over in
      rw (s.began (instant_nanos now))
      (subst (λ m. allowed m ≤ instant_nanos now - instant_nanos t) s.exact limit)

  -- the clock could not be read
  pub blind : (first : Option Instant) (moved : ℕ) (waits : Bool) (a b : Calls) → b.calls ≡ Unshown ∷ a.calls
      → ∥ Since allowed start first moved waits a.calls ∥₁ → IsLate allowed start first moved waits b.calls
  blind first moved waits a b same since =
      ∥∥₁_map since (λ s. (unshown first moved waits a.calls b.calls same s, tt))

  -- ---- after the clock was read

  module _ (first first_new : Option Instant) (moved moved_new : ℕ) (a b : Calls) (now : Instant)
      (is : BeginsBy first first_new now) (unmoved : moved_new ≡ moved) (looked : b.calls ≡ Shows now ∷ a.calls) where
    -- no time was left
    pub late : (waits : Bool) → ∥ Since allowed start first moved waits a.calls ∥₁
        → ∥ Since allowed start first_new moved_new waits b.calls ∥₁
    late waits since = ∥∥₁_map since (shown first first_new moved moved_new waits a.calls b.calls now is unmoved looked)

    pub over : (waits : Bool) → IfSome first_new (λ t. allowed moved ≤ instant_nanos now - instant_nanos t)
        → ∥ Since allowed start first moved waits a.calls ∥₁ → IsLate allowed start first_new moved_new waits b.calls
    over waits none since = ∥∥₁_map since (λ s. (
      shown first first_new moved moved_new waits a.calls b.calls now is unmoved looked s,
      is_over first first_new moved waits a.calls now is none s,
    ))

    module _ (left : Duration) (some : 0 < as_nanos left)
        (within : IfSome first_new (λ t. (instant_nanos now - instant_nanos t) + as_nanos left ≡ allowed moved)) where
      module _ (waits : Bool) (c : Calls) {E : Type 0} where
        -- the wait was bounded, or could not be
        pub ready : (result : Result (Unit {0}) E)
            → MatchResult result (λ u. c.calls ≡ Bounds left ∷ b.calls) (λ e. c.calls ≡ Unbound left ∷ b.calls)
            → ∥ Since allowed start first moved waits a.calls ∥₁
            → OnOk result (IsReady allowed start first_new moved_new waits c.calls)
        ready (Ok u) same since = ∥∥₁_map since (λ s. (
          bounded first_new moved_new waits b.calls c.calls left same
              (shown first first_new moved moved_new waits a.calls b.calls now is unmoved looked s),
          is_left first first_new moved waits a.calls now (as_nanos left) is some within s,
        ))
        ready (Err e) same since = tt

        pub after : (result : Result (Unit {0}) E)
            → MatchResult result (λ u. c.calls ≡ Bounds left ∷ b.calls) (λ e. c.calls ≡ Unbound left ∷ b.calls)
            → ∥ Since allowed start first moved waits a.calls ∥₁
            → ∥ Since allowed start first_new moved_new waits c.calls ∥₁
        after (Ok u) same since = ∥∥₁_map since (λ s. bounded first_new moved_new waits b.calls c.calls left same
            (shown first first_new moved moved_new waits a.calls b.calls now is unmoved looked s))
        after (Err e) same since = ∥∥₁_map since (λ s. unbounded first_new moved_new waits b.calls c.calls left same
            (shown first first_new moved moved_new waits a.calls b.calls now is unmoved looked s))

        pub unready : (result : Result (Unit {0}) E)
            → MatchResult result (λ u. c.calls ≡ Bounds left ∷ b.calls) (λ e. c.calls ≡ Unbound left ∷ b.calls)
            → ∥ Since allowed start first moved waits a.calls ∥₁
            → IfErr result (λ e. IsLate allowed start first_new moved_new waits c.calls)
        unready (Ok u) same since = tt
        unready (Err e) same since = ∥∥₁_map since (λ s. (
          unbounded first_new moved_new waits b.calls c.calls left same
              (shown first first_new moved moved_new waits a.calls b.calls now is unmoved looked s),
          is_left first first_new moved waits a.calls now (as_nanos left) is some within s,
        ))

      -- no wait is to be bounded
      pub ready_at_once : (waits : Bool) → waits ≡ false
          → ∥ Since allowed start first moved waits a.calls ∥₁ → IsReady allowed start first_new moved_new waits b.calls
      ready_at_once waits none since = ∥∥₁_map since (λ s.
          let full = is_left first first_new moved waits a.calls now (as_nanos left) is some within s in (
            shown first first_new moved moved_new waits a.calls b.calls now is unmoved looked s,
            ((as_nanos left, full), subst IsStopped s.same (s.stopped none)),
          ))

-- ---- after a read or a write

module _ {allowed : ℕ → ℕ} {start : List Call} (first : Option Instant) (moved : ℕ) (waits : Bool) where
  -- it moved these bytes
  pub moves : (calls calls_new : List Call) (moved_new n : ℕ) → calls_new ≡ Moves n ∷ Begins ∷ calls
      → moved_new ≡ min (moved + n) (2 ^ 64 - 1)
      → IsReady allowed start first moved waits calls → ∥ Since allowed start first moved_new waits calls_new ∥₁
  moves calls calls_new moved_new n same count ready = ∥∥₁_map ready (λ r.
      ended first moved moved_new waits (Begins ∷ calls) calls_new n same count
      (begun first moved waits calls (Begins ∷ calls) refl r.0 r.1))

  -- it failed
  pub fails : (calls calls_new : List Call) → calls_new ≡ Begins ∷ calls
      → IsReady allowed start first moved waits calls → ∥ Since allowed start first moved waits calls_new ∥₁
  fails calls calls_new same ready = ∥∥₁_map ready (λ r. begun first moved waits calls calls_new same r.0 r.1)

  -- it was refused
  pub refuses : (calls calls_new : List Call) → calls_new ≡ Refused ∷ calls
      → IsLate allowed start first moved waits calls → ∥ Since allowed start first moved waits calls_new ∥₁
  refuses calls calls_new same late = ∥∥₁_map late (λ l. refused first moved waits calls calls_new same l.0 l.1)

  pub late_since : (calls : List Call) → IsLate allowed start first moved waits calls
      → ∥ Since allowed start first moved waits calls ∥₁
  late_since calls late = ∥∥₁_map late (λ l. l.0)

  pub kept : (calls : List Call) → ∥ Since allowed start first moved waits calls ∥₁ → KeepsTime allowed start calls
  kept calls since = ∥∥₁_map since (λ s. (s.since, s.same, s.each))
