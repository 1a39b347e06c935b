-- How long reads and writes may wait. Lists of calls have the last call first.
use Rattle.std.specs.Prelude.{ℕ, ◌≡◌, ◌+◌, ◌-◌, ◌^◌, ◌<◌, ◌≤◌, min, Bool, true, false, List, [], ◌∷◌, ◌++◌, ⊤}
use Rattle.std.specs.Prelude.{Option, Some, None}
use Rattle.std.specs.Duration.{as_nanos}
use Rattle.std.specs.Time.{instant_nanos}
use Rattle.std.specs.declared.time.Instant.{Instant}
use Rattle.histories.specs.declared.call.Call.{Call}
use Rattle.histories.specs.declared.call.Call.TheVariants.{Shows, Unshown, Bounds, Unbound, Stops, Begins, Moves}
use Rattle.histories.specs.declared.call.Call.TheVariants.{Refused, Shuts}

-- the bytes that these calls moved
abbrev pub moved_in : List Call → ℕ
moved_in [] = 0
moved_in (Shows now ∷ before) = moved_in before
moved_in (Unshown ∷ before) = moved_in before
moved_in (Bounds longest ∷ before) = moved_in before
moved_in (Unbound longest ∷ before) = moved_in before
moved_in (Stops ∷ before) = moved_in before
moved_in (Begins ∷ before) = moved_in before
moved_in (Moves bytes ∷ before) = moved_in before + bytes
moved_in (Refused ∷ before) = moved_in before
moved_in (Shuts ∷ before) = moved_in before

-- what a count of these bytes shows that ends at 2 ^ 64 - 1
abbrev pub counted : ℕ → ℕ
counted bytes = min bytes (2 ^ 64 - 1)

-- the first reading of the clock among these calls, in nanoseconds, or this one if there is none
abbrev pub first_shown : ℕ → List Call → ℕ
first_shown now [] = now
first_shown now (Shows earlier ∷ before) = first_shown (instant_nanos earlier) before
first_shown now (Unshown ∷ before) = first_shown now before
first_shown now (Bounds longest ∷ before) = first_shown now before
first_shown now (Unbound longest ∷ before) = first_shown now before
first_shown now (Stops ∷ before) = first_shown now before
first_shown now (Begins ∷ before) = first_shown now before
first_shown now (Moves bytes ∷ before) = first_shown now before
first_shown now (Refused ∷ before) = first_shown now before
first_shown now (Shuts ∷ before) = first_shown now before

-- by one of these calls each later wait was ruled out
abbrev pub IsStopped : List Call → Type 0
IsStopped [] = ⊥
IsStopped (Shows now ∷ before) = IsStopped before
IsStopped (Unshown ∷ before) = IsStopped before
IsStopped (Bounds longest ∷ before) = IsStopped before
IsStopped (Unbound longest ∷ before) = IsStopped before
IsStopped (Stops ∷ before) = ⊤
IsStopped (Begins ∷ before) = IsStopped before
IsStopped (Moves bytes ∷ before) = IsStopped before
IsStopped (Refused ∷ before) = IsStopped before
IsStopped (Shuts ∷ before) = IsStopped before

-- by one of these calls the system was asked to shut the writing side
abbrev pub IsShut : List Call → Type 0
IsShut [] = ⊥
IsShut (Shows now ∷ before) = IsShut before
IsShut (Unshown ∷ before) = IsShut before
IsShut (Bounds longest ∷ before) = IsShut before
IsShut (Unbound longest ∷ before) = IsShut before
IsShut (Stops ∷ before) = IsShut before
IsShut (Begins ∷ before) = IsShut before
IsShut (Moves bytes ∷ before) = IsShut before
IsShut (Refused ∷ before) = IsShut before
IsShut (Shuts ∷ before) = ⊤

-- The clock showed this after these calls. Exactly so much of the time is left that began with the first reading, and
-- some is.
abbrev pub IsLeft : (ℕ → ℕ) → List Call → Instant → ℕ → Type 0
IsLeft allowed before now left =
    (0 < left)
    × ((instant_nanos now - first_shown (instant_nanos now) before) + left ≡ allowed (counted (moved_in before)))

-- The clock showed this after these calls. Nothing is left of the time that began with the first reading.
abbrev pub IsOver : (ℕ → ℕ) → List Call → Instant → Type 0
IsOver allowed before now =
    allowed (counted (moved_in before)) ≤ instant_nanos now - first_shown (instant_nanos now) before

-- A read or a write that begins after these calls, which came after the ones at the start, begins in time: the clock
-- was read, some time was left by it, and then the wait was bounded by just that, or waits were ruled out before.
abbrev pub MayBegin : (ℕ → ℕ) → List Call → List Call → Type 0
MayBegin allowed start (Bounds longest ∷ Shows now ∷ before) = IsLeft allowed before now (as_nanos longest)
MayBegin allowed start (Shows now ∷ before) =
    ((left : ℕ) × IsLeft allowed before now left) × IsStopped (before ++ start)
MayBegin allowed start other = ⊥

-- A read or a write that is refused after these calls can't begin in time: the clock could not be read, or nothing was
-- left by it, or the wait could not be bounded by what was left.
abbrev pub MayRefuse : (ℕ → ℕ) → List Call → Type 0
MayRefuse allowed (Unshown ∷ before) = ⊤
MayRefuse allowed (Unbound longest ∷ Shows now ∷ before) = IsLeft allowed before now (as_nanos longest)
MayRefuse allowed (Shows now ∷ before) = IsOver allowed before now
MayRefuse allowed other = ⊥

-- each read and each write among these calls began in time, none after a call to shut the writing side, and none was
-- refused that could begin in time
abbrev pub EachMayBegin : (ℕ → ℕ) → List Call → List Call → Type 0
EachMayBegin allowed start [] = ⊤
EachMayBegin allowed start (Shows now ∷ before) = EachMayBegin allowed start before
EachMayBegin allowed start (Unshown ∷ before) = EachMayBegin allowed start before
EachMayBegin allowed start (Bounds longest ∷ before) = EachMayBegin allowed start before
EachMayBegin allowed start (Unbound longest ∷ before) = EachMayBegin allowed start before
EachMayBegin allowed start (Stops ∷ before) = EachMayBegin allowed start before
EachMayBegin allowed start (Begins ∷ before) =
    MayBegin allowed start before × (¬ (IsShut before)) × EachMayBegin allowed start before
EachMayBegin allowed start (Moves bytes ∷ before) = EachMayBegin allowed start before
EachMayBegin allowed start (Refused ∷ before) = MayRefuse allowed before × EachMayBegin allowed start before
EachMayBegin allowed start (Shuts ∷ before) = EachMayBegin allowed start before

-- From old to new each read and each write began in time: the time that is allowed, in nanoseconds, for the bytes that
-- were moved before, from the first reading of the clock after old. None began after a call to shut the writing side,
-- and none was refused that could begin in time.
-- The clock of the stream showed each time among these calls, and the system was asked for each bound and set it: the
-- clauses `asked` of `Hearing` and `Telling`.
abbrev pub KeepsTime : (ℕ → ℕ) → List Call → List Call → Type 0
KeepsTime allowed old new = ∥ ((since : List Call) × (new ≡ since ++ old) × EachMayBegin allowed old since) ∥₁

-- From old to new there are stretches: the first begins with old, and the others with these calls, the last of them
-- first. In each stretch each read and each write began in time.
abbrev pub Stretches : (ℕ → ℕ) → List Call → List (List Call) → List Call → Type 0
Stretches allowed old [] new = KeepsTime allowed old new
Stretches allowed old (start ∷ starts) new = Stretches allowed old starts start × KeepsTime allowed start new

-- From old to new each read and each write began in time, where the time may have begun anew between two of them.
abbrev pub KeepsEach : (ℕ → ℕ) → List Call → List Call → Type 0
KeepsEach allowed old new = ∥ ((starts : List (List Call)) × Stretches allowed old starts new) ∥₁

-- ---- what a stream in time knows

-- the time began at the first reading among these calls, if there is one
abbrev pub BeganAt : Option Instant → List Call → Type 0
BeganAt None since = (now : ℕ) → first_shown now since ≡ now
BeganAt (Some first) since = (now : ℕ) → first_shown now since ≡ instant_nanos first

-- These calls came since the start, with the ones at it. The time began then, so many bytes were counted, and nothing
-- was shut.
pub record Since (allowed : ℕ → ℕ) (start : List Call) (first : Option Instant) (moved : ℕ) (waits : Bool)
    (calls : List Call) : Type 0 where
  pub since : List Call
  pub same : calls ≡ since ++ start
  pub each : EachMayBegin allowed start since
  pub began : BeganAt first since
  pub exact : moved ≡ counted (moved_in since)
  pub stopped : waits ≡ false → IsStopped calls
  pub unshut : ¬ (IsShut since)

-- so it is, and a read or a write may begin
abbrev pub IsReady : (ℕ → ℕ) → List Call → Option Instant → ℕ → Bool → List Call → Type 0
IsReady allowed start first moved waits calls =
    ∥ ((s : Since allowed start first moved waits calls) × MayBegin allowed start s.since) ∥₁

-- so it is, and a read or a write may be refused
abbrev pub IsLate : (ℕ → ℕ) → List Call → Option Instant → ℕ → Bool → List Call → Type 0
IsLate allowed start first moved waits calls =
    ∥ ((s : Since allowed start first moved waits calls) × MayRefuse allowed s.since) ∥₁

-- These calls came in stretches, and so it is from the start of the last.
abbrev pub SinceLast : (ℕ → ℕ) → List Call → Option Instant → ℕ → List Call → Type 0
SinceLast allowed old first moved calls =
    ∥ ((start : List Call) × KeepsEach allowed old start × ∥ Since allowed start first moved true calls ∥₁) ∥₁

-- Whatever the start was, from it so it still is.
abbrev pub StaysSince : (ℕ → ℕ) → Option Instant → Option Instant → ℕ → ℕ → List Call → List Call → Type 0
StaysSince allowed first first_new moved moved_new calls calls_new = (start : List Call)
    → ∥ Since allowed start first moved true calls ∥₁ → ∥ Since allowed start first_new moved_new true calls_new ∥₁
