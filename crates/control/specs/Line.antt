-- A line among the bytes that were read.
use Rattle.std.specs.Prelude.{ℕ, ◌≡◌, ◌<◌, ◌≤◌, ◌+◌, ◌⊎◌, ◌++◌, Bool, true, false, IsTrue, List, [], length, Contains}
use Rattle.std.specs.Prelude.{Result, Ok, Err}
use Rattle.histories.specs.Account.{Account, Gives}
use Rattle.histories.specs.Calls.{BeginsNone, FailsNone, FailsOnce, Reads}
use Rattle.histories.specs.declared.failure.Failure.TheVariants as failure
use Rattle.engine.specs.Causes.{IsUnreadable, most_reads}
use Rattle.orders.specs.Order.{longest_copy}
use Rattle.orders.specs.Words.{line_end}
use Rattle.control.specs.declared.line.Came.{Came}
use Rattle.control.specs.declared.line.Came.TheVariants.{All, Part, Interrupted, Late}
use Rattle.control.specs.declared.line.Extent.{Extent}
use Rattle.control.specs.declared.line.Extent.TheVariants.{Line, Stream}
use Rattle.control.specs.declared.line.ReadError.{ReadError}
use Rattle.control.specs.declared.line.ReadError.TheVariants.{Io, Memory}

-- a line ends in the bytes, or would be longer than the most bytes that it may have
abbrev pub HasEnough : ℕ → List ℕ → Type 0
HasEnough most got = Contains got line_end ⊎ (most < length got)

-- No more has to be read, or the stream is over.
abbrev pub IsEnough : ℕ → List ℕ → Account → Type 0
IsEnough most got came = HasEnough most got ⊎ IsTrue came.is_over

-- these bytes were read, behind others, and whether no more has to be
pub record ReadsOn (most : ℕ) (came came_new : Account) (got got_new : List ℕ) (done : Bool) : Type 0 where
  pub bytes : List ℕ
  pub gives : Gives came came_new bytes
  pub behind : got_new ≡ got ++ bytes
  pub enough : IsTrue done → IsEnough most got_new came_new

-- One read at most began, and what it gave came.
abbrev pub AsksOnce : Account → Account → Reads → Reads → Type 0
AsksOnce came came_new reads reads_new =
    (BeginsNone reads reads_new × Gives came came_new []) ⊎ Gives came came_new reads_new.last

-- No read began once a line had ended in the bytes, or more of them had come than a line may have.
abbrev pub AsksWhileOpen : ℕ → Account → Account → Reads → Reads → Type 0
AsksWhileOpen most came came_new reads reads_new =
    (BeginsNone reads reads_new × Gives came came_new [])
    ⊎ ((early : List ℕ) × Gives came came_new (early ++ reads_new.last) × (¬ HasEnough most early))

-- these bytes were read, behind others
pub record ReadsMore (came came_new : Account) (got got_new : List ℕ) : Type 0 where
  pub bytes : List ℕ
  pub gives : Gives came came_new bytes
  pub behind : got_new ≡ got ++ bytes

-- the most reads of one line, failed ones included
abbrev pub most_tries : ℕ
most_tries = 1000

-- A read failed, or this many began; the count of those that failed did not fall.
abbrev pub HasTried : ℕ → Reads → Reads → Type 0
HasTried tries reads reads_new = IsUnreadable tries reads reads_new × (reads.failed ≤ reads_new.failed)

-- These bytes were read, and no more has to be for a line of so many bytes at most.
pub record ReadsTo (most : ℕ) (came came_new : Account) (got : List ℕ) : Type 0 where
  pub gives : Gives came came_new got
  pub enough : IsEnough most got came_new

-- so it is of the line of an operator
abbrev pub ReadsLine : Account → Account → List ℕ → Type 0
ReadsLine = ReadsTo longest_copy

-- ---- a reply

-- the most bytes of an outcome's line, of one read, and of both
abbrev pub longest_outcome : ℕ
longest_outcome = 10

abbrev pub most_read : ℕ
most_read = longest_copy + 1

abbrev pub reply_room : ℕ
reply_room = longest_outcome + most_read

-- no more has to be read of it, whatever comes
abbrev pub IsAll : Extent → List ℕ → Type 0
IsAll Line got = HasEnough longest_outcome got
IsAll Stream got = ⊥

-- if a line has more bytes than an outcome's by now, it had before
abbrev pub IsPartAfter : Extent → ℕ → ℕ → Type 0
IsPartAfter Line len len_new = longest_outcome < len_new → longest_outcome < len
IsPartAfter Stream len len_new = Unit {0}

-- all of it came with these bytes, or a part
abbrev pub ComesWith : Extent → Came → List ℕ → Type 0
ComesWith extent All got = IsAll extent got
ComesWith extent Part got = IsPartAfter extent 0 (length got)
ComesWith extent Interrupted got = ⊥
ComesWith extent Late got = ⊥

-- what a read came to, by the bytes so far and their counts
abbrev pub Comes : Extent → Came → List ℕ → ℕ → ℕ → Account → Type 0
Comes extent All got_new len len_new came_new = IsAll extent got_new ⊎ IsTrue came_new.is_over
Comes extent other got_new len len_new came_new = IsPartAfter extent len len_new

-- No more reads began than bytes came and calls failed, but for so many.
abbrev pub ReadsFew : ℕ → Reads → Reads → ℕ → ℕ → Type 0
ReadsFew extra reads reads_new len len_new =
    reads_new.begun + reads.failed + len ≤ reads.begun + reads_new.failed + len_new + extra

-- the reads that may give nothing where one came to this: the last one
abbrev pub spare : Came → ℕ
spare All = 1
spare other = 0

-- ---- reads that fail

-- how a read failed, or that it did not, by what it came to
abbrev pub FailsAs : Reads → Reads → Result Came ReadError → Type 0
FailsAs reads reads_new (Ok Late) = FailsOnce failure.Late reads reads_new
FailsAs reads reads_new (Ok Interrupted) = FailsOnce failure.Interrupted reads reads_new
FailsAs reads reads_new (Ok other) = FailsNone reads reads_new
FailsAs reads reads_new (Err Io) = FailsOnce failure.Broken reads reads_new
FailsAs reads reads_new (Err Memory) = FailsNone reads reads_new

-- so many reads began or failed
abbrev pub Tries : ℕ → Reads → Reads → Type 0
Tries tries reads reads_new = tries + (reads.begun + reads.failed) ≤ reads_new.begun + reads_new.failed

-- No read was late, if a late one ends the reading: it may read on.
abbrev pub NoneEnds : Bool → Reads → Reads → Type 0
NoneEnds reads_on reads reads_new = reads_on ≡ false → reads_new.late ≡ reads.late

-- none broke either
abbrev pub ReadsWell : Bool → Reads → Reads → Type 0
ReadsWell reads_on reads reads_new = (reads_new.broken ≡ reads.broken) × NoneEnds reads_on reads reads_new

-- one read broke
abbrev pub Breaks : Bool → Reads → Reads → Type 0
Breaks reads_on reads reads_new =
    (reads_new.broken ≡ reads.broken + 1) × (reads.failed < reads_new.failed) × NoneEnds reads_on reads reads_new

-- one read was late, which ends the reading
abbrev pub EndsLate : Bool → Reads → Reads → Type 0
EndsLate reads_on reads reads_new =
    (reads_on ≡ false) × (reads_new.late ≡ reads.late + 1) × (reads.failed < reads_new.failed)
    × (reads_new.broken ≡ reads.broken)

-- Why a reply was not read to its end: one read broke, or was late and that ends the reading. Or as many began or
-- failed as may, of which none did so.
abbrev pub IsUnheard : Bool → Reads → Reads → Type 0
IsUnheard reads_on reads reads_new =
    Breaks reads_on reads reads_new ⊎ EndsLate reads_on reads reads_new
    ⊎ (Tries most_reads reads reads_new × ReadsWell reads_on reads reads_new)

-- so a reading ended
abbrev pub HearsReply : Bool → Reads → Reads → Result (Unit {0}) ReadError → Type 0
HearsReply reads_on reads reads_new (Ok u) = ReadsWell reads_on reads reads_new
HearsReply reads_on reads reads_new (Err Io) = IsUnheard reads_on reads reads_new
HearsReply reads_on reads reads_new (Err Memory) = ReadsWell reads_on reads reads_new

-- ---- a whole reply

-- It was read, behind other bytes, and no more has to be.
pub record ReadsReply (extent : Extent) (came came_new : Account) (got got_new : List ℕ) : Type 0 where
  pub more : ReadsMore came came_new got got_new
  pub all : IsAll extent got_new ⊎ IsTrue came_new.is_over

-- memory for it may run out, since it has no bound, or since the room or the bytes before it are not those of a line
abbrev pub LacksRoom : Extent → ℕ → ℕ → Type 0
LacksRoom Line capacity len = (longest_outcome < len) ⊎ (capacity < reply_room)
LacksRoom Stream capacity len = Unit {0}
