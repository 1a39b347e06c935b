-- Peers and operators, one after another.
use Rattle.std.specs.Prelude.{ℕ, zero, suc, ◌≡◌, ◌<◌, ◌≤◌, ◌+◌, ◌-◌, ◌^◌, ◌⊎◌, ◌↔◌, Bool, IsTrue}
use Rattle.std.specs.Prelude.{List, [], ◌∷◌, ◌++◌, length, map, All, Option, Some, None, Result, Ok, Err}
use Rattle.std.specs.Io.KnownBytes.{Appends, Keeps}
use Rattle.histories.specs.Account.{Account}
use Rattle.histories.specs.Calls.{Reads, Writes}
use Rattle.world.specs.Store.{Shown}
use Rattle.world.specs.World.{World}
use Rattle.world.specs.declared.registry.StoreFault.{StoreFault}
use Rattle.engine.specs.Causes.{IsUnreadable}
use Rattle.engine.specs.declared.fault.Io.{Io}
use Rattle.engine.specs.declared.fault.Io.TheVariants as io
use Rattle.socket.specs.Connections.{Visit, Come, exchanges_of}
use Rattle.socket.specs.Connections as socket
use Rattle.socket.specs.History.{Done, Door, Known, written_whole}
use Rattle.socket.specs.declared.deed.Deed.{Deed}
use Rattle.socket.specs.declared.deed.Deed.TheVariants as deed
use Rattle.socket.specs.declared.deed.Search.{Search}
use Rattle.socket.specs.declared.deed.Search.TheVariants.{Waiting, AtOnce}
use Rattle.control.specs.Copying.{Making, Step, OfTask, AllRead, GoesThroughSteps, IsBusy}
use Rattle.control.specs.Health.{Answered, tally_of}
use Rattle.control.specs.Hearing.{Heard, Made, Pinged, CameOf, GoesAs, IsHeard, ListsBy, WritesSome}
use Rattle.control.specs.Hearing.{bytes_heard, steps_heard, told_heard}
use Rattle.control.specs.Line.{most_tries}
use Rattle.control.specs.Tasks.{Asked}
use Rattle.socket.specs.declared.callers.Caller.{Caller}
use Rattle.socket.specs.declared.callers.Caller.TheVariants.{Peer, Operator}
use Rattle.control.specs.declared.health.Health.{Health}
use Rattle.orders.specs.declared.outcome.Outcome.TheVariants.{Stopping}
use Rattle.control.specs.declared.tally.Tally.{Tally}
use Rattle.control.specs.declared.control_reply.ControlReply.{ControlReply}
use Rattle.control.specs.declared.control_reply.ControlReply.TheVariants as spoken

-- An operator before and after it was obeyed, what its line ordered, unless a read failed before that was whole, and
-- the result: what was told to it.
pub record Audience (O : Type 0) : Type 0 where
  pub before : O
  pub after : O
  pub heard : Option Heard
  pub told : Result ControlReply Io

-- one who came, and what came of it; a peer with what its connection counts as; or a connection that could not be taken
pub data Call (P O : Type 0) : Type 0 where
  OfPeer : Visit P → Answered → Call P O
  OfOperator : Audience O → Call P O
  Untaken : Call P O

-- those who came, in their order
abbrev pub callers_of : {P O : Type 0} → List (Call P O) → List (Caller P O)
callers_of [] = []
callers_of (OfPeer visit answered ∷ calls) = Peer visit.before ∷ callers_of calls
callers_of (OfOperator audience ∷ calls) = Operator audience.before ∷ callers_of calls
callers_of (Untaken ∷ calls) = callers_of calls

-- something was made for this order, and not refused because another one was being made
abbrev pub IsLong : Option Heard → Type 0
IsLong (Some (Made making)) = ¬ IsBusy making
IsLong other = ⊥

-- how the next caller is looked for while so many are connected: it is waited for only while nobody is
abbrev pub search_with : ℕ → Search
search_with zero = Waiting
search_with (suc n) = AtOnce

abbrev pub one_less : ℕ → ℕ
one_less zero = zero
one_less (suc n) = n

module _ {C : Type 0} where
  -- if a caller was to be taken, it was looked for so
  abbrev pub IsSought : Search → Deed C → Type 0
  IsSought search (deed.Taken how caller) = how ≡ search
  IsSought search (deed.Untaken how) = how ≡ search
  IsSought search other = Unit {0}

  -- how many are connected after a deed, if so many are before it
  abbrev pub connected_after : ℕ → Deed C → ℕ
  connected_after n (deed.Taken search caller) = suc n
  connected_after n (deed.Ended caller) = one_less n
  connected_after n other = n

  -- So many were connected before these deeds, and so many after them. Whoever came next was waited for while nobody
  -- was connected, and nobody was waited for while somebody was.
  abbrev pub AreSought : ℕ → List (Done C) → ℕ → Type 0
  AreSought n [] m = n ≡ m
  AreSought n (done ∷ deeds) m = IsSought (search_with n) done.1 × AreSought (connected_after n done.1) deeds m

  -- What was done before an operator who ordered this was left. If something was made for it, it was watched, and then
  -- this was done for others; and otherwise nothing was done.
  abbrev pub IsWithin : Option Heard → List (Done C) → List (Done C) → Type 0
  IsWithin heard within others =
      ((¬ IsLong heard) × (within ≡ []) × (others ≡ [])) ⊎ (IsLong heard × (within ≡ ([], deed.Watched) ∷ others))

-- These deeds are those for these callers. Each was taken in its turn, as it came, or could not be. A peer was left, with
-- the status of its reply if that was written whole, and its connection ended, before anything else was done; and an
-- operator after it was obeyed. Where something was made for it, it was watched as soon as it was taken, and others may
-- have been taken, and ended, before that.
module _ {P O : Type 0} where
  abbrev pub Happens : List (Call P O) → List (Done (Caller P O)) → Type 0
  Happens [] deeds = deeds ≡ []
  Happens (OfPeer visit answered ∷ calls) deeds =
      (how : Search) × (rest : List (Done (Caller P O)))
      × (deeds ≡ ([], deed.Taken how (Peer visit.before)) ∷ ([], deed.Left (Peer visit.after) (written_whole answered))
      ∷ ([], deed.Ended (Peer visit.gone)) ∷ rest)
      × Happens calls rest
  Happens (OfOperator audience ∷ calls) deeds =
      (how : Search) × (within : List (Done (Caller P O))) × (others : List (Done (Caller P O)))
      × (rest : List (Done (Caller P O)))
      × (deeds ≡ ([], deed.Taken how (Operator audience.before)) ∷ within
      ++ ([], deed.Left (Operator audience.after) None) ∷ ([], deed.Ended (Operator audience.after)) ∷ rest)
      × IsWithin audience.heard within others × Happens calls (others ++ rest)
  Happens (Untaken ∷ calls) deeds =
      (how : Search) × (rest : List (Done (Caller P O))) × (deeds ≡ ([], deed.Untaken how) ∷ rest) × Happens calls rest

  -- The second history is the first, and then what was done for these callers, while so many others were connected. Each
  -- was waited for if nobody was connected, and otherwise only looked for.
  abbrev pub Happened : ℕ → List (Done (Caller P O)) → List (Done (Caller P O)) → List (Call P O) → Type 0
  Happened connected before after calls =
      (deeds : List (Done (Caller P O))) × (after ≡ before ++ deeds) × Happens calls deeds
      × AreSought connected deeds connected

-- the connection of a peer was ended as that of one who got a reply with this status, or none
abbrev pub IsClosed : {P O : Type 0} → Known P O → Call P O → Type 0
IsClosed known (OfPeer visit answered) = known.is_ended visit.after (written_whole answered) visit.gone
IsClosed known (OfOperator audience) = Unit {0}
IsClosed known Untaken = Unit {0}

-- the steps of what an operator ordered, or none if no line was read
abbrev pub steps_if : Option Heard → List Step
steps_if None = []
steps_if (Some heard) = steps_heard heard

-- the store went through what a line ordered, or nothing happened if no line was read
abbrev pub GoesIf : (idle : Option Heard → Type 0) (meanwhile : Making → Type 0) → Shown → Shown → Option Heard → Type 0
GoesIf idle meanwhile old new None = idle None × GoesThroughSteps old new []
GoesIf idle meanwhile old new (Some heard) = GoesAs idle meanwhile old new heard

-- the steps of one caller: at most two
abbrev pub steps_of : {P O : Type 0} → Call P O → List Step
steps_of (OfPeer visit answered) = map (λ x. OfTask (Asked x)) (exchanges_of visit.first)
steps_of (OfOperator audience) = steps_if audience.heard
steps_of Untaken = []

-- the messages, the registry commands, the copies, the pings, the lists and the looks for keys, as they came
abbrev pub steps_with : {P O : Type 0} → List (Call P O) → List Step
steps_with [] = []
steps_with (call ∷ calls) = steps_of call ++ steps_with calls

-- how many of the callers are peers
abbrev pub peers : {P O : Type 0} → List (Call P O) → ℕ
peers [] = 0
peers (OfPeer visit answered ∷ calls) = peers calls + 1
peers (OfOperator audience ∷ calls) = peers calls
peers (Untaken ∷ calls) = peers calls

-- how many count as connections: peers, and those that could not be taken
abbrev pub connections_of : {P O : Type 0} → List (Call P O) → ℕ
connections_of [] = 0
connections_of (OfPeer visit answered ∷ calls) = connections_of calls + 1
connections_of (OfOperator audience ∷ calls) = connections_of calls
connections_of (Untaken ∷ calls) = connections_of calls + 1

-- an operator was told that the server ends
abbrev pub IsStop : {P O : Type 0} → Call P O → Type 0
IsStop (OfPeer visit answered) = ⊥
IsStop (OfOperator audience) = audience.told ≡ Ok (spoken.Outcome Stopping)
IsStop Untaken = ⊥

abbrev pub IsNoStop : {P O : Type 0} → Call P O → Type 0
IsNoStop call = ¬ IsStop call

module _ {P O : Type 0} where
  -- The last was an operator who was told that the server ends, and nobody before was. Or nobody was, and this many
  -- count as connections, or 2^64 - 1 came.
  abbrev pub IsEnd : ℕ → List (Call P O) → Type 0
  IsEnd connections calls =
      ((first : List (Call P O)) × (last : Call P O) × (calls ≡ first ++ last ∷ []) × All IsNoStop first × IsStop last)
      ⊎ (All IsNoStop calls × ((connections_of calls ≡ connections) ⊎ (length calls ≡ 2 ^ 64 - 1)))

-- what became of the connections of peers
abbrev pub answered_with : {P O : Type 0} → List (Call P O) → List Answered
answered_with [] = []
answered_with (OfPeer visit answered ∷ calls) = answered ∷ answered_with calls
answered_with (OfOperator audience ∷ calls) = answered_with calls
answered_with (Untaken ∷ calls) = answered_with calls

-- what came of a copy that was ordered, or of a ping
abbrev pub CameIf : (Making → Type 0) → (Result Health StoreFault → Type 0)
    → Option Heard → Type 0
CameIf made pinged None = Unit {0}
CameIf made pinged (Some heard) = CameOf made pinged heard

-- where an operator asked for a list, it was read; where one named a key by its fingerprint, the key was looked up
abbrev pub ListsIf : Shown → Shown → Option Heard → Type 0
ListsIf old new None = Unit {0}
ListsIf old new (Some heard) = ListsBy old new heard

-- a ping was told these counts
abbrev pub TellsTally : Tally → Option Heard → Type 0
TellsTally tally (Some (Pinged (Ok health))) = health.tally ≡ tally
TellsTally tally other = Unit {0}

-- where the call is a ping, it was told the counts of the connections before it
abbrev pub IsTallied : {P O : Type 0} → List ℕ → List (Call P O) → Call P O → Type 0
IsTallied since before (OfPeer visit answered) = Unit {0}
IsTallied since before (OfOperator audience) = TellsTally (tally_of since (answered_with before)) audience.heard
IsTallied since before Untaken = Unit {0}

-- so it is of each, behind those before them all
abbrev pub AllTallied : {P O : Type 0} → List ℕ → List (Call P O) → List (Call P O) → Type 0
AllTallied since before [] = Unit {0}
AllTallied since before (call ∷ calls) = IsTallied since before call × AllTallied since (before ++ call ∷ []) calls

module _ {O : Type 0} (heeded : O → Account × Reads) (told : O → Option (List ℕ) × Writes) where
  -- What was read came from this operator, and what came of it went to this operator: the whole line, or where a write
  -- or the flush failed a beginning of it or all. Where a read failed, or none was left, nothing was written.
  abbrev pub IsToldThere : O → O → Option Heard → Result ControlReply Io → Type 0
  IsToldThere before after None result =
      (result ≡ Err io.Read) × Keeps (told before).0 (told after).0
      × IsUnreadable most_tries (heeded before).1 (heeded after).1
  IsToldThere before after (Some heard) (Ok said) =
      (said ≡ told_heard heard) × IsHeard (heeded before).0 (heeded after).0 heard
      × Appends (told before).0 (told after).0 (bytes_heard heard)
  IsToldThere before after (Some heard) (Err e) =
      (e ≡ io.Write) × IsHeard (heeded before).0 (heeded after).0 heard
      × WritesSome (told before).0 (told after).0 (bytes_heard heard)
      × ((told before).1.failed < (told after).1.failed)

  -- This operator was obeyed, and left so, and the store went through its order. The flag says whether it was told that
  -- the server ends.
  pub record ObeysOne (made : Making → Type 0)
      (pinged : Result Health StoreFault → Type 0) (idle : Option Heard → Type 0) (meanwhile : Making → Type 0)
      (operator gone : O) (stops : Bool) (old new : Shown) : Type 0 where
    pub audience : Audience O
    pub begins : audience.before ≡ operator
    pub leaves : audience.after ≡ gone
    pub there : IsToldThere audience.before audience.after audience.heard audience.told
    pub stopped : IsTrue stops ↔ (audience.told ≡ Ok (spoken.Outcome Stopping))
    pub through : GoesIf idle meanwhile old new audience.heard
    pub came : CameIf made pinged audience.heard
    pub lists : ListsIf old new audience.heard

  module _ {P : Type 0} (heard : P → Account × Reads) (written : P → Option (List ℕ) × Writes) where
    abbrev pub IsCallThere : Call P O → Type 0
    IsCallThere (OfPeer visit answered) = socket.IsAnsweredAs heard written visit answered
    IsCallThere (OfOperator audience) = IsToldThere audience.before audience.after audience.heard audience.told
    IsCallThere Untaken = Unit {0}

    -- The callers were served one after another, each once, and at most as many peers as there are connections. Each
    -- was new. What a peer sent was answered to that peer, whose connection counts as failed only if a call of it
    -- failed. The outcome of an operator's order went to that operator. Nobody else was taken. Each who was taken was
    -- left, a peer with the status of its reply if that was written whole, and its connection ended by that.
    pub record ServesEach (known : Known P O) (door left : Door (Caller P O)) (old new : Shown)
        (connections : ℕ) : Type 0 where
      pub calls : List (Call P O)
      pub few : peers calls ≤ connections
      pub came : Come door.0 left.0 (callers_of calls)
      pub happened : Happened 0 door.1 left.1 calls
      pub begun : All known.is_new (callers_of calls)
      pub closed : All (IsClosed known) calls
      pub there : All IsCallThere calls
      pub through : GoesThroughSteps old new (steps_with calls)

    -- So it was. Each copy that was ordered was made of the machine's world at its moment, each list is one of that
    -- world, and each ping was told what was counted in it, and how the connections before it were answered.
    pub record ReadsEach
        {S : Type 0} (shown : S → Shown) (made : S → S → Making → Type 0)
        (counted : S → S → ℕ → Type 0) (known : Known P O)
        (door left : Door (Caller P O)) (old new : S) (since : List ℕ) (connections : ℕ) : Type 0 where
      pub each : ServesEach known door left (shown old) (shown new) connections
      pub reads : (shown new).is_honest → (w : World) → (shown old).stands w
          → AllRead shown made counted w (steps_with each.calls)
      pub tallies : AllTallied since [] each.calls

    -- So it was, and it ended as `IsEnd` says.
    pub record EndsEach
        {S : Type 0} (shown : S → Shown) (made : S → S → Making → Type 0)
        (counted : S → S → ℕ → Type 0) (known : Known P O)
        (door left : Door (Caller P O)) (old new : S) (since : List ℕ) (connections : ℕ) : Type 0 where
      pub reads : ReadsEach shown made counted known door left old new since connections
      pub ends : IsEnd connections reads.each.calls
