-- How much of the log of a copy the disk may lack.
use Rattle.std.specs.Prelude.{ℕ, ◌≡◌, ◌<◌, ◌≤◌, ◌+◌, ◌^◌, ◌-◌, ◌⊎◌, Bool, true}

-- after how many bytes the log is written to the disk at the latest: 64 MiB
abbrev pub last_settled : ℕ
last_settled = 67108864

-- A slice begins because fewer bytes were copied since the log was last written to the disk than there may be. Or the
-- log was to be written now, and whether the slice begins is what that said.
abbrev pub Begins : (Bool → Type 0) → ℕ → ℕ → ℕ → Bool → Type 0
Begins synced unsettled most unsettled_new begins =
    ((unsettled < most) × (begins ≡ true) × (unsettled_new ≡ unsettled))
    ⊎ (synced begins × (unsettled_new ≡ 0))

-- these bytes were counted, or there are as many as can be counted
abbrev pub Counts : ℕ → ℕ → ℕ → Type 0
Counts unsettled bytes unsettled_new = (unsettled + bytes ≤ unsettled_new) ⊎ (unsettled_new ≡ 2 ^ 64 - 1)
