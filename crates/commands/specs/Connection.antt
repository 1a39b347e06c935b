-- What passes over a connection to a running `serve`.
use Rattle.std.specs.Prelude.{ℕ, ◌≡◌, ◌<◌, ◌≤◌, ◌+◌, ◌⊎◌, ◌++◌, All, IfSome, Bool, true, false, List, [], length}
use Rattle.std.specs.Prelude.{Option, Some, Result, Ok, Err}
use Rattle.histories.specs.Account.{Account}
use Rattle.histories.specs.Calls.{Reads, no_reads}
use Rattle.engine.specs.Written.{IsBeginning}
use Rattle.network.specs.History.{Calls, CallsMeanwhile, Done, deeds_between}
use Rattle.network.specs.declared.servers.Wait.{Wait}
use Rattle.network.specs.declared.servers.Wait.TheVariants.{Second, Minute, Unbounded}
use Rattle.orders.specs.Order.{HasNoLine, IsLineOf, Ordered, Stop, Ping, ListOf, Copy, Catalog, RevokeByFingerprint}
use Rattle.orders.specs.Order.{Registry}
use Rattle.control.specs.Asking.{HasNoBound, IsNoReply, IsReplyTo}
use Rattle.control.specs.Line.{IsUnheard, ReadsWell}
use Rattle.control.specs.declared.client.OrderReply.{OrderReply}
use Rattle.control.specs.declared.client.SendError.{SendError}
use Rattle.control.specs.declared.client.SendError.TheVariants as untold
use Rattle.control.specs.declared.line.Came.{Came}
use Rattle.control.specs.declared.line.Came.TheVariants as came

-- What passed over a connection: the bytes that were sent, those that came and whether these are all, and the calls to
-- read, and how many writes failed.
pub record Passed : Type 0 where
  pub sent : List ℕ
  pub came : List ℕ
  pub is_over : Bool
  pub reads : Reads
  pub failed : ℕ

-- it is all that passed over a connection whose ends gave and took this
pub record IsAll (account : Account) (reads : Reads) (contents : Option (List ℕ)) (failures : ℕ) (passed : Passed) : Type 0
  where
    pub heard : account.heard ≡ passed.came
    pub over : account.is_over ≡ passed.is_over
    pub called : reads ≡ passed.reads
    pub written : contents ≡ Some passed.sent
    pub failed : failures ≡ passed.failed

-- whether the command reads on after a late read of the reply
abbrev pub reads_on : Ordered → Bool
reads_on (Copy to) = true
reads_on other = false

-- The line of the order was sent, and what came is this reply to it, and nothing else came. Or nothing was sent and
-- nothing came, because no bytes are such a line or memory ran out. Or a beginning of the line was sent, a write failed,
-- and nothing came. Or the line was sent, and a read broke, or was late and the order is no copy, or all that there are
-- began or failed; or what came is no reply, whatever may follow; or memory ran out for a reply that has no bound. No
-- other read broke, or was late if the order is no copy.
abbrev pub Exchanges : Ordered → Passed → Result OrderReply SendError → Type 0
Exchanges o p (Ok told) = IsLineOf p.sent o × IsReplyTo o told p.came × ReadsWell (reads_on o) no_reads p.reads
Exchanges o p (Err untold.Words) = HasNoLine o × (p.sent ≡ []) × (p.came ≡ []) × (p.reads ≡ no_reads)
Exchanges o p (Err untold.Memory) = (p.sent ≡ []) × (p.came ≡ []) × (p.reads ≡ no_reads)
Exchanges o p (Err untold.Io) =
    ((line : List ℕ) × IsLineOf line o × IsBeginning p.sent line × (0 < p.failed) × (p.came ≡ [])
    × (p.reads ≡ no_reads))
    ⊎ (IsLineOf p.sent o × IsUnheard (reads_on o) no_reads p.reads)
Exchanges o p (Err untold.NoReply) =
    IsLineOf p.sent o × IsNoReply o p.is_over p.came × ReadsWell (reads_on o) no_reads p.reads
Exchanges o p (Err untold.ReplyMemory) = IsLineOf p.sent o × HasNoBound o × ReadsWell (reads_on o) no_reads p.reads

-- How long each read of the reply to an order waits: that to a catalog as long as it takes, and that to a copy too, or a
-- second if the command then does something else and reads on.
abbrev pub IsWaitFor : Ordered → Wait → Type 0
IsWaitFor (Copy to) wait = (wait ≡ Second) ⊎ (wait ≡ Unbounded)
IsWaitFor (Catalog key) wait = wait ≡ Unbounded
IsWaitFor other wait = wait ≡ Minute

-- the server was asked for its health
abbrev pub OnlyPings : Passed → Type 0
OnlyPings passed = (told : Result OrderReply SendError) × Exchanges Ping passed told

-- how often it may be asked after a read that came to this
abbrev pub pings_after : Came → ℕ
pings_after came.Late = 1
pings_after came.Interrupted = 1
pings_after other = 0

-- ---- which server is asked

-- `all` says what passed over a connection that was ended: all that passed is this
abbrev pub Passes : {L : Type 0} → (L → Passed → Type 0) → (Passed → Type 0) → L → Type 0
Passes all By link = (passed : Passed) × all link passed × By passed

module _ {L : Type 0} (all : L → Passed → Type 0) (before after : List (Done L)) (path : List ℕ) where
  -- the server of this path was asked for its health, at most once for each read that failed, by the counts of these, and
  -- nothing else was done
  abbrev pub PingsBetween : ℕ → ℕ → Type 0
  PingsBetween failed failed_new =
      (between : List (Option L)) × All (λ asked. IfSome asked (Passes all OnlyPings)) between
      × (after ≡ before ++ deeds_between path between) × (length between + failed ≤ failed_new)

  -- so it was while a copy was made; for another order, nothing was done
  abbrev pub PingsIf : ℕ → ℕ → Ordered → Type 0
  PingsIf failed failed_new (Copy to) = PingsBetween failed failed_new
  PingsIf failed failed_new Stop = after ≡ before
  PingsIf failed failed_new Ping = after ≡ before
  PingsIf failed failed_new (ListOf listing) = after ≡ before
  PingsIf failed failed_new (Catalog key) = after ≡ before
  PingsIf failed failed_new (RevokeByFingerprint f) = after ≡ before
  PingsIf failed failed_new (Registry command) = after ≡ before

  -- The server of this path was connected to once, each read waited as long as the order says, all that passed over the
  -- connection is this, and nothing else was connected to. While a copy was made, it was also asked for its health, over
  -- connections of their own, each read of which waited at most a second, and at most once for each read of the first
  -- that failed.
  abbrev pub Meets : Ordered → (Passed → Type 0) → Type 0
  Meets (Copy to) By =
      CallsMeanwhile before after path (IsWaitFor (Copy to))
      (λ pings. Passes all (λ passed. By passed × (pings ≤ passed.reads.failed))) (Passes all OnlyPings)
  Meets Stop By = Calls before after path (IsWaitFor Stop) (Passes all By)
  Meets Ping By = Calls before after path (IsWaitFor Ping) (Passes all By)
  Meets (ListOf listing) By = Calls before after path (IsWaitFor (ListOf listing)) (Passes all By)
  Meets (Catalog key) By = Calls before after path (IsWaitFor (Catalog key)) (Passes all By)
  Meets (RevokeByFingerprint f) By = Calls before after path (IsWaitFor (RevokeByFingerprint f)) (Passes all By)
  Meets (Registry command) By = Calls before after path (IsWaitFor (Registry command)) (Passes all By)
