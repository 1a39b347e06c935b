-- What was done where connections come in.
use Rattle.std.specs.Prelude.{ℕ, ◌≡◌, ◌≢◌, List, [], ◌∷◌, ◌++◌, map, Option, None, Result, Ok, Err}
use Rattle.histories.specs.Account.{Account, IsUnused}
use Rattle.histories.specs.declared.call.Call.{Call}
use Rattle.socket.specs.Connections.{Come}
use Rattle.socket.specs.declared.callers.Caller.{Caller}
use Rattle.socket.specs.declared.callers.Caller.TheVariants.{Peer, Operator}
use Rattle.socket.specs.declared.deed.Deed.{Deed}
use Rattle.socket.specs.declared.deed.Deed.TheVariants as deed
use Rattle.socket.specs.declared.deed.ListenOn.{ListenOn}
use Rattle.socket.specs.declared.deed.ListenOn.TheVariants.{Port, Input}
use Rattle.socket.specs.declared.deed.Search.{Search}
use Rattle.socket.specs.declared.deed.Search.TheVariants.{Waiting}

-- a deed, with the path of the socket that it is about, or with none
abbrev pub Done : Type 0 → Type 0
Done C = List ℕ × Deed C

-- those who wait, if they are known, and what was done so far
abbrev pub Door : Type 0 → Type 0
Door C = Option (List C) × List (Done C)

-- what is done where the next was looked for so and was to be taken
abbrev pub took : {C E : Type 0} → Search → Result C E → Done C
took search (Ok caller) = ([], deed.Taken search caller)
took search (Err e) = ([], deed.Untaken search)

-- The next of those who wait was looked for so and taken, and nothing else was done.
pub record Takes {C : Type 0} (search : Search) (door left : Door C) (caller : C) : Type 0 where
  pub comes : Come door.0 left.0 (caller ∷ [])
  pub noted : left.1 ≡ door.1 ++ ([], deed.Taken search caller) ∷ []

-- A connection was to be taken, and was not, as this deed says. Nothing else was done.
pub record Misses {C : Type 0} (door left : Door C) (what : Deed C) : Type 0 where
  pub comes : Come door.0 left.0 []
  pub noted : left.1 ≡ door.1 ++ ([], what) ∷ []

-- so it is where whoever comes next was looked for so and was to be taken
abbrev pub TakesNone : {C : Type 0} → Search → Door C → Door C → Type 0
TakesNone search door left = Misses door left (deed.Untaken search)

-- so it is where a peer was to be taken and no operator comes in
abbrev pub TakesNoPeer : {C : Type 0} → Door C → Door C → Type 0
TakesNoPeer door left = Misses door left deed.UntakenPeer

-- the next was looked for so and taken, or nobody if that failed
abbrev pub TakesNext : {C E : Type 0} → Search → Door C → Door C → Result C E → Type 0
TakesNext search door left (Ok caller) = Takes search door left caller
TakesNext search door left (Err e) = TakesNone search door left

-- This was done, with the path that it is about. Nothing else was done, and nobody was taken.
pub record Does {C : Type 0} (door left : Door C) (path : List ℕ) (what : Deed C) : Type 0 where
  pub waits : left.0 ≡ door.0
  pub noted : left.1 ≡ door.1 ++ (path, what) ∷ []

-- This one was left, after a reply that was written whole and had this status or after none, and then its connection
-- was ended, as it was then. Nothing else was done, and nobody was taken.
pub record Ends {C : Type 0} (door left : Door C) (caller : C) (status : Option ℕ) (gone : C) : Type 0 where
  pub waits : left.0 ≡ door.0
  pub noted : left.1 ≡ door.1 ++ ([], deed.Left caller status) ∷ ([], deed.Ended gone) ∷ []

-- what is known of a caller who was just taken, and of a peer whose connection was ended: how it was when it was left,
-- the status of the reply that was written whole, if one was, and how it was when its connection was closed
pub record Known (P O : Type 0) : Type 1 where
  pub is_new : Caller P O → Type 0
  pub is_ended : P → Option ℕ → P → Type 0

-- these operators, and then these peers
abbrev pub callers_in : {P O : Type 0} → List O → List P → List (Caller P O)
callers_in operators peers = map Operator operators ++ map Peer peers

module _ {P O : Type 0} where
  -- what is done where the next peer was to be taken, and no operator comes in
  abbrev pub took_peer : {E : Type 0} → Result P E → Done (Caller P O)
  took_peer (Ok peer) = ([], deed.Taken Waiting (Peer peer))
  took_peer (Err e) = ([], deed.UntakenPeer)

  -- the next peer was taken, or nobody if that failed
  abbrev pub TakesPeer : {E : Type 0} → Door (Caller P O) → Door (Caller P O) → Result P E → Type 0
  TakesPeer door left (Ok peer) = Takes Waiting door left (Peer peer)
  TakesPeer door left (Err e) = TakesNoPeer door left

  -- a peer was left, after a reply with this status or after none, and its connection was ended so
  abbrev pub EndsPeer : (P → Option ℕ → P → Type 0) → Door (Caller P O) → Door (Caller P O) → P → Option ℕ → Type 0
  EndsPeer is_ended door left peer status =
      (gone : P) × is_ended peer status gone × Ends door left (Peer peer) status (Peer gone)

  -- an operator was left, and its connection was ended as it was left
  abbrev pub EndsOperator : Door (Caller P O) → Door (Caller P O) → O → Type 0
  EndsOperator door left operator = Ends door left (Operator operator) None (Operator operator)

-- who asks for the first entrance gets the second: the same, or any port in the place of port 0
abbrev pub IsBoundFor : ListenOn → ListenOn → Type 0
IsBoundFor (Port port) (Port bound) = port ≢ 0 → bound ≡ port
IsBoundFor (Port port) Input = ⊥
IsBoundFor Input (Port bound) = ⊥
IsBoundFor Input Input = Unit {0}

-- nothing has passed over this connection, and nothing was asked that bears on how long it is waited for
abbrev pub IsUntouched : Account × List Call → Option (List ℕ) × List Call → Type 0
IsUntouched came told = IsUnused came.0 told.0 × (came.1 ≡ []) × (told.1 ≡ [])

-- so it is between this caller and us
module _ {P O : Type 0} (came : P → Account × List Call) (written : P → Option (List ℕ) × List Call)
    (heeded : O → Account × List Call) (told : O → Option (List ℕ) × List Call) where
  abbrev pub IsUnheard : Caller P O → Type 0
  IsUnheard (Peer peer) = IsUntouched (came peer) (written peer)
  IsUnheard (Operator operator) = IsUntouched (heeded operator) (told operator)

-- the status of a reply that was written whole
abbrev pub written_whole : {E : Type 0} → Result (Option ℕ) E → Option ℕ
written_whole (Ok status) = status
written_whole (Err e) = None
