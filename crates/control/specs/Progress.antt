-- How far a server has come.
use Rattle.std.specs.Prelude.{ℕ, ◌≡◌, ◌<◌, ◌-◌, ◌^◌, ◌⊎◌, Bool, true, false}

-- another caller may be taken: no operator was told that the server ends, connections are left, and callers can be
-- counted
abbrev pub IsGoing : (stops : Bool) (left taken : ℕ) → Type 0
IsGoing stops left taken = (stops ≡ false) × (0 < left) × (taken < 2 ^ 64 - 1)

-- no caller is taken any more
abbrev pub IsOver : (stops : Bool) (left taken : ℕ) → Type 0
IsOver stops left taken = (stops ≡ true) ⊎ ((left ≡ 0) ⊎ (taken ≡ 2 ^ 64 - 1))
