-- What an operator sends, and what comes of it.
use Rattle.std.specs.Prelude.{ℕ, ◌≡◌, ◌<◌, ◌≤◌, ◌+◌, ◌⊎◌, ◌++◌, Bool, true, false, IsTrue, List, [], get_or, length}
use Rattle.std.specs.Prelude.{MatchOption, Option, Some, None, Result, Ok, Err}
use Rattle.std.specs.Io.KnownBytes.{Appends}
use Rattle.histories.specs.Account.{Account, Gives}
use Rattle.histories.specs.Calls.{Reads}
use Rattle.engine.specs.Written.{WritesBeginning}
use Rattle.world.specs.declared.registry.RegistryReply.TheVariants as registered
use Rattle.orders.specs.Order.{HasNoLine, IsLineOf, Ordered, ListOf, Ping, Stop, Copy, Catalog, RevokeByFingerprint}
use Rattle.orders.specs.Order.{Registry}
use Rattle.orders.specs.Outcome.{IsNoOutcome, line_of}
use Rattle.orders.specs.Words.{line_end}
use Rattle.orders.specs.declared.outcome.Outcome.{Outcome}
use Rattle.orders.specs.declared.outcome.Outcome.TheVariants as outcome
use Rattle.orders.specs.declared.write.WriteError.{WriteError}
use Rattle.orders.specs.declared.write.WriteError.TheVariants as unwritten
use Rattle.control.specs.Health.{IsHealthLine}
use Rattle.control.specs.Line.{IsUnheard, ReadsWell}
use Rattle.control.specs.Listing.{AreLines}
use Rattle.control.specs.declared.client.OrderReply.{OrderReply}
use Rattle.control.specs.declared.client.OrderReply.TheVariants as reply
use Rattle.control.specs.declared.client.SendError.{SendError}
use Rattle.control.specs.declared.client.SendError.TheVariants.{Words, Memory, Io, NoReply, ReplyMemory}
use Rattle.control.specs.declared.line.Extent.{Extent}
use Rattle.control.specs.declared.line.Extent.TheVariants.{Line, Stream}
use Rattle.control.specs.declared.line.ReadError.{ReadError}
use Rattle.control.specs.declared.line.ReadError.TheVariants as unread

-- why an order with no line is not sent
abbrev pub untold_for : WriteError → SendError
untold_for unwritten.Words = Words
untold_for unwritten.Memory = Memory

-- why nothing is known of an order whose reply was not read
abbrev pub untold_by : ReadError → SendError
untold_by unread.Io = Io
untold_by unread.Memory = ReplyMemory

-- ---- what the bytes that came tell

-- whether an outcome says that all was done
abbrev pub is_done : Outcome → Bool
is_done (outcome.RegistryReply registered.Done) = true
is_done other = false

-- the bytes are lines, each whole, and the line of this outcome behind them
pub record EndsBy (lines : List ℕ) (told : Outcome) (got : List ℕ) : Type 0 where
  pub are : AreLines lines
  pub is : got ≡ lines ++ line_of told

-- Lines that are all, with `done` behind them. Or an outcome in their place, or behind some of them if they may be cut.
abbrev pub IsListed : Bool → OrderReply → List ℕ → Type 0
IsListed cut (reply.Text lines) got = EndsBy lines (outcome.RegistryReply registered.Done) got
IsListed false (reply.Outcome told) got = (is_done told ≡ false) × EndsBy [] told got
IsListed true (reply.Outcome told) got = (is_done told ≡ false) × ((lines : List ℕ) × EndsBy lines told got)

-- the line of an outcome, and nothing else
abbrev pub IsOutcomeIn : OrderReply → List ℕ → Type 0
IsOutcomeIn (reply.Outcome told) got = got ≡ line_of told
IsOutcomeIn (reply.Text text) got = ⊥

-- the lines of a health, or the line of an outcome
abbrev pub IsHealthIn : OrderReply → List ℕ → Type 0
IsHealthIn (reply.Outcome told) got = got ≡ line_of told
IsHealthIn (reply.Text text) got = IsHealthLine text × (got ≡ text)

-- the bytes are this reply to the order
abbrev pub IsReplyTo : Ordered → OrderReply → List ℕ → Type 0
IsReplyTo Ping told got = IsHealthIn told got
IsReplyTo (ListOf listing) told got = IsListed false told got
IsReplyTo (Catalog key) told got = IsListed true told got
IsReplyTo Stop told got = IsOutcomeIn told got
IsReplyTo (Copy path) told got = IsOutcomeIn told got
IsReplyTo (RevokeByFingerprint f) told got = IsOutcomeIn told got
IsReplyTo (Registry command) told got = IsOutcomeIn told got

-- the bytes are no reply to the order
abbrev pub IsNone : Ordered → List ℕ → Type 0
IsNone o got = (told : OrderReply) → ¬ IsReplyTo o told got

-- nor are they with any bytes that may follow: none may if the stream is over
abbrev pub IsNoReply : Ordered → Bool → List ℕ → Type 0
IsNoReply o is_over got = (more : List ℕ) → (IsTrue is_over → more ≡ []) → IsNone o (got ++ more)

-- what is read of an order's reply, and whether it has no bound
abbrev pub extent_of : Ordered → Extent
extent_of Ping = Stream
extent_of (ListOf listing) = Stream
extent_of (Catalog key) = Stream
extent_of Stop = Line
extent_of (Copy path) = Line
extent_of (RevokeByFingerprint f) = Line
extent_of (Registry command) = Line

abbrev pub HasNoBound : Ordered → Type 0
HasNoBound o = extent_of o ≡ Stream

-- what is read in bytes
abbrev pub ReadsAs : Ordered → List ℕ → Option OrderReply → Type 0
ReadsAs o got told = MatchOption told (IsNone o got) (λ reply. IsReplyTo o reply got)

abbrev pub IsNoList : Bool → List ℕ → Type 0
IsNoList cut got = (told : OrderReply) → ¬ IsListed cut told got

abbrev pub IsNoOutcomeIn : List ℕ → Type 0
IsNoOutcomeIn got = (told : OrderReply) → ¬ IsOutcomeIn told got

-- so it is told, or why the bytes were not all read
abbrev pub RepliesBy : Ordered → List ℕ → Result (Unit {0}) ReadError → Result OrderReply SendError → Type 0
RepliesBy o got (Ok u) (Ok told) = IsReplyTo o told got
RepliesBy o got (Ok u) (Err why) = (why ≡ NoReply) × IsNone o got
RepliesBy o got (Err why) told = told ≡ Err (untold_by why)

-- no line ends from here on, but with the last byte
abbrev pub IsLastFrom : ℕ → List ℕ → Type 0
IsLastFrom at text = (i : ℕ) → at ≤ i → i + 1 < length text → get_or text i 0 ≡ line_end → ⊥

-- ---- what is sent, and what comes

module _ (written written_new : Option (List ℕ)) where
  -- the line of the order was sent
  abbrev pub IsAsked : Ordered → Type 0
  IsAsked o = (sent : List ℕ) × IsLineOf sent o × Appends written written_new sent

  -- a beginning of it was, and a write failed
  abbrev pub IsCut : ℕ → ℕ → Ordered → Type 0
  IsCut failed failed_new o =
      (sent : List ℕ) × IsLineOf sent o × WritesBeginning written written_new sent × (failed < failed_new)

  -- The line of the order was sent. Or nothing was sent, because no bytes are such a line or memory ran out. Or a
  -- beginning of the line was sent, and a write failed.
  abbrev pub IsSent : {T : Type 0} → ℕ → ℕ → Ordered → Result T SendError → Type 0
  IsSent failed failed_new o (Ok room) = IsAsked o
  IsSent failed failed_new o (Err Words) = HasNoLine o × (written_new ≡ written)
  IsSent failed failed_new o (Err Memory) = written_new ≡ written
  IsSent failed failed_new o (Err Io) = IsCut failed failed_new o
  IsSent failed failed_new o (Err NoReply) = ⊥
  IsSent failed failed_new o (Err ReplyMemory) = ⊥

-- The line of the order was sent, and this reply came. Or nothing was sent or read, because no bytes are such a line or
-- memory ran out. Or a beginning of it was sent, a write failed, and nothing was read. Or it was sent, and a read broke,
-- or was late and that ends the reading, or all that there are began or failed; or what came is no reply, whatever may
-- follow; or memory ran out for a reply that has no bound. No other read broke, or was late if that ends the reading.
abbrev pub OrderGets : Bool → Account → Account → Reads → Reads → Option (List ℕ) → Option (List ℕ) → ℕ → ℕ → Ordered
    → Result OrderReply SendError → Type 0
OrderGets reads_on came came_new reads reads_new written written_new failed failed_new o (Ok told) =
    IsAsked written written_new o × ((got : List ℕ) × Gives came came_new got × IsReplyTo o told got)
    × ReadsWell reads_on reads reads_new
OrderGets reads_on came came_new reads reads_new written written_new failed failed_new o (Err Words) =
    HasNoLine o × (written_new ≡ written) × (came_new ≡ came) × (reads_new ≡ reads)
OrderGets reads_on came came_new reads reads_new written written_new failed failed_new o (Err Memory) =
    (written_new ≡ written) × (came_new ≡ came) × (reads_new ≡ reads)
OrderGets reads_on came came_new reads reads_new written written_new failed failed_new o (Err Io) =
    (IsCut written written_new failed failed_new o × (came_new ≡ came) × (reads_new ≡ reads))
    ⊎ (IsAsked written written_new o × IsUnheard reads_on reads reads_new)
OrderGets reads_on came came_new reads reads_new written written_new failed failed_new o (Err NoReply) =
    IsAsked written written_new o
    × ((got : List ℕ) × Gives came came_new got × IsNoReply o came_new.is_over got)
    × ReadsWell reads_on reads reads_new
OrderGets reads_on came came_new reads reads_new written written_new failed failed_new o (Err ReplyMemory) =
    IsAsked written written_new o × HasNoBound o × ReadsWell reads_on reads reads_new
