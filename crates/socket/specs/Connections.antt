-- What a store goes through while connections are served.
use Rattle.std.specs.Prelude.{ℕ, ◌≡◌, ◌<◌, ◌≤◌, ◌⊎◌, List, [], ◌∷◌, ◌++◌, length, Option, Some, None}
use Rattle.std.specs.Prelude.{Result, Ok, Err}
use Rattle.std.specs.Io.KnownBytes.{Appends, Keeps}
use Rattle.histories.specs.Account.{Account}
use Rattle.histories.specs.Calls.{Reads, Writes}
use Rattle.world.specs.Store.{Shown}
use Rattle.engine.specs.Causes.{IsUnreadable, most_reads}
use Rattle.engine.specs.Exchange.{Exchange}
use Rattle.engine.specs.First.{First, HearsFirst, first_bytes, first_exchanges, first_status}
use Rattle.engine.specs.Store.{GoesThrough}
use Rattle.engine.specs.Written.{WritesBeginning}
use Rattle.engine.specs.declared.fault.Io.{Io}
use Rattle.engine.specs.declared.fault.Io.TheVariants as io

-- The store went through a run of messages, at most as many as there are connections.
pub record GoesThroughMost (old new : Shown) (connections : ℕ) : Type 0 where
  pub exchanges : List Exchange
  pub few : length exchanges ≤ connections
  pub through : GoesThrough old new exchanges

-- if the peers that wait are known, they are these and then those that are left
abbrev pub Come : {P : Type 0} → Option (List P) → Option (List P) → List P → Type 0
Come None left peers = Unit {0}
Come (Some all) None peers = ⊥
Come (Some all) (Some left) peers = all ≡ peers ++ left

-- A peer before and after it was answered, and when its connection was ended, and what came first on it, unless a read
-- failed before that was whole.
pub record Visit (P : Type 0) : Type 0 where
  pub before : P
  pub after : P
  pub gone : P
  pub first : Option First

-- what became of the connection of a peer: the status of the reply, or `None` where it sent nothing, or which call
-- failed
abbrev pub Answered : Type 0
Answered = Result (Option ℕ) Io

-- It counts as what became of it: by the status that was written for what came first, or as one that failed.
abbrev pub CountsAs : Option First → Answered → Type 0
CountsAs None (Ok status) = ⊥
CountsAs None (Err e) = e ≡ io.Read
CountsAs (Some first) (Ok status) = status ≡ first_status first
CountsAs (Some first) (Err e) = e ≡ io.Write

-- a reply that counts as one that was written is flushed; if it counts as one that was not, a call to write it or to
-- flush it failed
abbrev pub IsWrittenAs : Answered → Writes → Writes → Type 0
IsWrittenAs (Ok status) writes writes_new = writes_new.unflushed ≡ []
IsWrittenAs (Err io.Read) writes writes_new = Unit {0}
IsWrittenAs (Err io.Write) writes writes_new = writes.failed < writes_new.failed

-- the message that came first with its outcome, if a message did
abbrev pub exchanges_of : Option First → List Exchange
exchanges_of None = []
exchanges_of (Some first) = first_exchanges first

-- both accounts: of a caller the bytes that passed one way, and the calls that moved them; of a source of callers those
-- who wait, and what was done
abbrev pub both : {P Bytes Calls : Type 0} → (P → Bytes) → (P → Calls) → P → Bytes × Calls
both bytes calls caller = (bytes caller, calls caller)

module _ {P : Type 0} (heard : P → Account × Reads) (written : P → Option (List ℕ) × Writes) where
  -- What came first came from this peer, and its reply went to this peer: all of it, or a beginning, and a write
  -- failed. If nothing came whole, nothing was written, and a read failed or none was left.
  abbrev pub IsBetween : P → P → Option First → Type 0
  IsBetween before after None =
      Keeps (written before).0 (written after).0 × IsUnreadable most_reads (heard before).1 (heard after).1
  IsBetween before after (Some first) =
      HearsFirst (heard before).0 (heard after).0 first
      × ((WritesBeginning (written before).0 (written after).0 (first_bytes first)
      × ((written before).1.failed < (written after).1.failed))
      ⊎ Appends (written before).0 (written after).0 (first_bytes first))

  -- the visit is one between its peer before and after it
  abbrev pub IsAnsweredThere : Visit P → Type 0
  IsAnsweredThere visit = IsBetween visit.before visit.after visit.first

  -- this peer was answered, and left so, and the store went through its message
  pub record Answers (peer gone : P) (old new : Shown) : Type 0 where
    pub first : Option First
    pub there : IsBetween peer gone first
    pub through : GoesThrough old new (exchanges_of first)

  -- so it was, and its connection counts as what became of it
  pub record AnswersOne (peer gone : P) (old new : Shown) (answered : Answered) : Type 0 where
    pub answers : Answers peer gone old new
    pub counts : CountsAs answers.first answered
    pub cause : IsWrittenAs answered (written peer).1 (written gone).1

  -- so it was in this visit
  abbrev pub IsAnsweredAs : Visit P → Answered → Type 0
  IsAnsweredAs visit answered =
      IsAnsweredThere visit × CountsAs visit.first answered
      × IsWrittenAs answered (written visit.before).1 (written visit.after).1
