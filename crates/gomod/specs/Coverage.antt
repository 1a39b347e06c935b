-- Which of some versions intervals cover.
use Rattle.std.specs.Prelude.{ℕ, ◌≡◌, ◌<◌, ◌≤◌, true, false, Bool, List, get_or, length, map}
use Rattle.std.specs.List.{list_any}
use Rattle.std.specs.List.Sorted.{IsPartitionPoint}
use Rattle.gomod.specs.Module.{Interval, covers}
use Rattle.gomod.specs.Paths.{Version, is_below}

-- no version is below an earlier one
abbrev pub Ascends : List Version → Type 0
Ascends vs = (i j : ℕ) (d : Version) → i ≤ j → j < length vs → is_below (get_or vs j d) (get_or vs i d) ≡ false

-- the first `n` versions are not above the high one of an interval, and the others are
abbrev pub Reaches : Interval → List Version → ℕ → Type 0
Reaches i vs n = (n ≤ length vs)
    × IsPartitionPoint (λ v. is_below i.high v ≡ false) (λ v. is_below i.high v ≡ true) vs n

-- for each version, whether an interval covers it
abbrev pub covered : List Version → List Interval → List Bool
covered vs is = map (λ v. list_any (covers v) is) vs
