-- What `answer_one` does with the first message of a stream.
use Rattle.std.specs.Prelude.{◌≡◌, ℕ, ◌≤◌, ◌⊎◌, List, [], ◌∷◌, ◌++◌, length, Option, Some, Result, Ok, Err}
use Rattle.std.specs.Io.KnownBytes.{Consumes, Appends, Keeps}
use Rattle.histories.specs.Account.{Account, Gives, MayFollow, IsKnownInput}
use Rattle.framing.specs.Message.{ReadsMessage}
use Rattle.framing.specs.Framing.{IsUnfinished}
use Rattle.wire.specs.declared.reply.Fixed.{Fixed}
use Rattle.world.specs.Store.{Shown}
use Rattle.engine.specs.Exchange.{Exchange}
use Rattle.engine.specs.Reply.{text_of, status_of}
use Rattle.engine.specs.Store.{GoesThrough}
use Rattle.engine.specs.Written.{WritesBeginning}
use Rattle.engine.specs.Served.{read_limit, IsClosing, closing_bytes, closing_status}
use Rattle.engine.specs.declared.fault.Io.{Io}
use Rattle.engine.specs.declared.fault.Io.TheVariants as io

-- what comes first in a stream: a message with its outcome, or what closes a stream that begins with none
pub data First : Type 0 where
  Answers : Exchange → First
  Closes : Option Fixed → First

-- it comes first in the input
abbrev pub IsFirst : First → List ℕ → Type 0
IsFirst (Answers x) input = (rest : List ℕ) × ReadsMessage input x.message rest
IsFirst (Closes closing) input = IsClosing input closing

-- the bytes that are written for it
abbrev pub first_bytes : First → List ℕ
first_bytes (Answers x) = text_of x
first_bytes (Closes closing) = closing_bytes closing

-- the status that is written, if any is
abbrev pub first_status : First → Option ℕ
first_status (Answers x) = Some (status_of x)
first_status (Closes closing) = closing_status closing

abbrev pub first_exchanges : First → List Exchange
first_exchanges (Answers x) = x ∷ []
first_exchanges (Closes closing) = []

-- It comes first in what the reader holds, and little more was read than was needed: the bytes that were read, without
-- at most the last `read_limit`, begin with no whole message, and the stream could go on from them.
pub record TakesFirst (unread unread_new : Option (List ℕ)) (first : First) : Type 0 where
  pub input : List ℕ
  pub tells : IsKnownInput unread input
  pub stands : IsFirst first input
  pub early : List ℕ
  pub last : List ℕ
  pub consumed : Consumes unread unread_new (early ++ last)
  pub few : length last ≤ read_limit
  pub unfinished : IsUnfinished early

-- The first message was answered as the machine answers it, or the stream was closed without one, and the result is the
-- status that was written. Or a read failed before, and nothing was done. Or a write failed, and a beginning was
-- written, or the flush alone failed.
abbrev pub ServesFirst :
    Shown → Shown → Option (List ℕ) → Option (List ℕ) → Option (List ℕ) → Option (List ℕ) → Result (Option ℕ) Io
    → Type 0
ServesFirst old new unread unread_new written written_new (Ok status) =
    (first : First) × TakesFirst unread unread_new first × GoesThrough old new (first_exchanges first)
    × (status ≡ first_status first) × Appends written written_new (first_bytes first)
ServesFirst old new unread unread_new written written_new (Err io.Read) =
    (got : List ℕ) × Consumes unread unread_new got × IsUnfinished got × GoesThrough old new []
    × Keeps written written_new
ServesFirst old new unread unread_new written written_new (Err io.Write) =
    (first : First) × TakesFirst unread unread_new first × GoesThrough old new (first_exchanges first)
    × (WritesBeginning written written_new (first_bytes first) ⊎ Appends written written_new (first_bytes first))

-- ---- over an account

-- It comes first in these bytes: what closes a stream does so whatever may follow them.
abbrev pub IsFirstHeard : Account → List ℕ → First → Type 0
IsFirstHeard after bytes (Answers x) = (rest : List ℕ) × ReadsMessage bytes x.message rest
IsFirstHeard after bytes (Closes closing) = (more : List ℕ) → MayFollow after more → IsClosing (bytes ++ more) closing

-- It came first in what was heard, and little more was read than was needed.
pub record HearsFirst (old new : Account) (first : First) : Type 0 where
  pub bytes : List ℕ
  pub gives : Gives old new bytes
  pub stands : IsFirstHeard new bytes first
  pub early : List ℕ
  pub last : List ℕ
  pub cut : bytes ≡ early ++ last
  pub few : length last ≤ read_limit
  pub unfinished : IsUnfinished early

-- as `ServesFirst` says, of what was heard
abbrev pub ServesHeard :
    Shown → Shown → Account → Account → Option (List ℕ) → Option (List ℕ) → Result (Option ℕ) Io → Type 0
ServesHeard old new came came_new written written_new (Ok status) =
    (first : First) × HearsFirst came came_new first × GoesThrough old new (first_exchanges first)
    × (status ≡ first_status first) × Appends written written_new (first_bytes first)
ServesHeard old new came came_new written written_new (Err io.Read) =
    (got : List ℕ) × Gives came came_new got × IsUnfinished got × GoesThrough old new [] × Keeps written written_new
ServesHeard old new came came_new written written_new (Err io.Write) =
    (first : First) × HearsFirst came came_new first × GoesThrough old new (first_exchanges first)
    × (WritesBeginning written written_new (first_bytes first) ⊎ Appends written written_new (first_bytes first))
