-- Which calls of a reader were made, and why a call failed.
use Rattle.std.specs.Prelude.{◌≡◌, ℕ, ◌<◌, ◌≤◌, ◌+◌, ◌^◌, ◌-◌, ◌⊎◌, List, [], ◌++◌, Result, MatchResult}
use Rattle.histories.specs.Account.{Account, Gives}
use Rattle.histories.specs.Calls.{Reads, Writes, BeginsNone}
use Rattle.framing.specs.Framing.{IsUnfinished}
use Rattle.engine.specs.declared.fault.Io.{Io}
use Rattle.engine.specs.declared.fault.Io.TheVariants as io

-- A call that failed did so because a call of the stream failed: the count of these grew. It never falls.
abbrev pub FailsWith : {T : Type 0} → ℕ → ℕ → Result T Io → Type 0
FailsWith failed failed_new result = MatchResult result (λ _. failed ≤ failed_new) (λ e. failed < failed_new)

-- no read gave a byte
abbrev pub GivesNone : Reads → Reads → Type 0
GivesNone old new = BeginsNone old new ⊎ (new.last ≡ [])

-- No read began once the bytes held and those heard say what comes next: the last that began did so while they were
-- unfinished.
abbrev pub AsksWhileUnfinished : List ℕ → Account → Account → Reads → Reads → Type 0
AsksWhileUnfinished held came came_new reads reads_new =
    (BeginsNone reads reads_new × Gives came came_new [])
    ⊎ ((early : List ℕ) × Gives came came_new (early ++ reads_new.last) × IsUnfinished (held ++ early))

-- At least as many reads began as were taken from those that were left.
abbrev pub Spends : ℕ → ℕ → Reads → Reads → Type 0
Spends left left_new reads reads_new = left + reads.begun ≤ left_new + reads_new.begun

-- A read failed, or as many began as were left.
abbrev pub IsUnreadable : ℕ → Reads → Reads → Type 0
IsUnreadable left reads reads_new = (reads.failed < reads_new.failed) ⊎ (left + reads.begun ≤ reads_new.begun)

-- why a session failed that had so many reads left: a call of the reader failed or all of them began, or a call of the
-- writer failed
abbrev pub IsCausedIn : ℕ → Reads → Reads → Writes → Writes → Io → Type 0
IsCausedIn left reads reads_new writes writes_new io.Read = IsUnreadable left reads reads_new
IsCausedIn left reads reads_new writes writes_new io.Write = writes.failed < writes_new.failed

-- the most reads of a stream
abbrev pub most_reads : ℕ
most_reads = 2 ^ 64 - 1

-- why a stream failed: a call of the reader failed or `most_reads` reads began, or a call of the writer failed
abbrev pub IsCaused : Reads → Reads → Writes → Writes → Io → Type 0
IsCaused = IsCausedIn most_reads
