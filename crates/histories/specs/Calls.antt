-- What is noted of the calls that read from a reader, and of those that write to a writer and flush it.
use Rattle.std.specs.Prelude.{◌≡◌, ℕ, ◌+◌, ◌<◌, ◌≤◌, ◌⊎◌, List, [], ◌++◌, length, take, Result, Ok, Err}
use Rattle.std.specs.IoError.{error_kind}
use Rattle.std.specs.declared.io.Error.{Error}
use Rattle.histories.specs.Failure.{broken_by, failure_of, late_by}
use Rattle.histories.specs.declared.failure.Failure.{Failure}

pub record Reads : Type 0 where
  -- how many reads began
  pub begun : ℕ
  -- the bytes that the last of them gave
  pub last : List ℕ
  -- how many calls failed
  pub failed : ℕ
  -- how many of these were late, and how many broke
  pub late : ℕ
  pub broken : ℕ

-- nothing was read so far
abbrev pub no_reads : Reads
no_reads = record { begun = 0; last = []; failed = 0; late = 0; broken = 0 }

-- From old to new no read began.
abbrev pub BeginsNone : Reads → Reads → Type 0
BeginsNone old new = (new.begun ≡ old.begun) × (new.last ≡ old.last)

-- no call failed
abbrev pub FailsNone : Reads → Reads → Type 0
FailsNone old new = (new.failed ≡ old.failed) × (new.late ≡ old.late) × (new.broken ≡ old.broken)

-- one call failed, for this reason
abbrev pub FailsOnce : Failure → Reads → Reads → Type 0
FailsOnce why old new =
    (new.failed ≡ old.failed + 1) × (new.late ≡ old.late + late_by why) × (new.broken ≡ old.broken + broken_by why)

-- A call into these bytes: it began a read, which gave the first n of them; or it failed, before a read began or in it.
abbrev pub CallsRead : Reads → Reads → Result ℕ Error → List ℕ → Type 0
CallsRead old new (Ok n) buf = (new.begun ≡ old.begun + 1) × (new.last ≡ take n buf) × FailsNone old new
CallsRead old new (Err e) buf =
    FailsOnce (failure_of (error_kind e)) old new
    × (BeginsNone old new ⊎ ((new.begun ≡ old.begun + 1) × (new.last ≡ [])))

pub record Writes : Type 0 where
  -- the bytes that were taken since the last flush
  pub unflushed : List ℕ
  -- how many calls failed, or took none of some bytes
  pub failed : ℕ

-- nothing was written so far
abbrev pub no_writes : Writes
no_writes = record { unflushed = []; failed = 0 }

-- A call with these bytes: it took the first n of them, or it failed. To take none of some is to fail.
abbrev pub CallsWrite : {E : Type 0} → Writes → Writes → Result ℕ E → List ℕ → Type 0
CallsWrite old new (Ok n) buf =
    (new.unflushed ≡ old.unflushed ++ take n buf) × (0 < n → new.failed ≡ old.failed)
    × (n ≡ 0 → 0 < length buf → new.failed ≡ old.failed + 1) × (old.failed ≤ new.failed)
CallsWrite old new (Err e) buf = (new.unflushed ≡ old.unflushed) × (new.failed ≡ old.failed + 1)

-- A flush: all that was taken is flushed, or it failed.
abbrev pub CallsFlush : {E : Type 0} → Writes → Writes → Result (Unit {0}) E → Type 0
CallsFlush old new (Ok u) = (new.unflushed ≡ []) × (new.failed ≡ old.failed)
CallsFlush old new (Err e) = (new.unflushed ≡ old.unflushed) × (new.failed ≡ old.failed + 1)
