-- Which faults are not told again.
use Rattle.std.specs.Prelude.{ℕ, ◌≡◌, ◌≤◌, ◌-◌, ◌/◌, ◌⊎◌, ◌++◌, Bool, true, false, List, [], ◌∷◌, filter, nat_lt}
use Rattle.std.specs.Prelude.{Option, Some, None, bytes_eq, vec_len}
use Rattle.std.specs.List.{list_any}
use Rattle.std.specs.Time.{instant_nanos}
use Rattle.std.specs.declared.time.Instant.{Instant}
use Rattle.control.specs.declared.faults.Fault.{Fault}
use Rattle.control.specs.declared.faults.RecentFaults.{RecentFaults}

-- what was told then was told in the last minute; it was not if the clock could not be read then
abbrev pub is_recent : Instant → Option Instant → Bool
is_recent now None = false
is_recent now (Some at) = nat_lt ((instant_nanos now - instant_nanos at) / 1000000000) 60

-- the faults of the last minute; while the clock can't be read, no minute ends
abbrev pub remembered : Option Instant → List Fault → List Fault
remembered None told = told
remembered (Some now) told = filter (λ fault. is_recent now fault.at) told

-- one of the faults has this line, or they are as many as are told in a minute
abbrev pub IsHeldBack : RecentFaults → List ℕ → Type 0
IsHeldBack faults line =
    (list_any (λ fault. bytes_eq fault.line line) faults.told.items ≡ true) ⊎ (20 ≤ vec_len faults.told)

-- a fault with this line and this time is one more, unless memory ran out for it
abbrev pub Remembers : List Fault → List Fault → List ℕ → Option Instant → Type 0
Remembers told told_new line now =
    (told_new ≡ told)
    ⊎ ((fault : Fault) × (fault.line ≡ line) × (fault.at ≡ now) × (told_new ≡ told ++ fault ∷ []))

-- Those that were told before the last minute are forgotten. A line is admitted just if it is not held back by the
-- others, and then it is remembered.
pub record Admits (now : Option Instant) (old new : RecentFaults) (line : List ℕ) (admitted : Bool) : Type 0 where
  pub left : RecentFaults
  pub forgets : left.told.items ≡ remembered now old.told.items
  pub held : admitted ≡ false → IsHeldBack left line × (new ≡ left)
  pub free : admitted ≡ true → (¬ IsHeldBack left line) × Remembers left.told.items new.told.items line now
