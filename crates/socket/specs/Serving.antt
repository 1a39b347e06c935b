-- Connections that are served one after another, by the history of who took them.
use Rattle.std.specs.Prelude.{ℕ, ◌≡◌, List, [], ◌∷◌, ◌++◌, length, All, Option}
use Rattle.histories.specs.Account.{Account}
use Rattle.histories.specs.Calls.{Reads, Writes}
use Rattle.world.specs.Store.{Shown}
use Rattle.engine.specs.Exchange.{Exchange}
use Rattle.engine.specs.Store.{GoesThrough}
use Rattle.socket.specs.Connections.{Answered, Come, Visit, IsAnsweredAs, exchanges_of}
use Rattle.socket.specs.History.{Done, Door, Known, written_whole}
use Rattle.socket.specs.declared.callers.Caller.{Caller}
use Rattle.socket.specs.declared.callers.Caller.TheVariants.{Peer}
use Rattle.socket.specs.declared.deed.Deed.TheVariants as deed
use Rattle.socket.specs.declared.deed.Search.TheVariants.{Waiting}

-- a peer whose connection was taken, as it came, as it was left and as its connection was ended, with what became of
-- that; or one of a peer that could not be taken
pub data Call (P : Type 0) : Type 0 where
  OfPeer : Visit P → Answered → Call P
  Untaken : Call P

-- those who came, in their order
abbrev pub peers_of : {P O : Type 0} → List (Call P) → List (Caller P O)
peers_of [] = []
peers_of (OfPeer visit answered ∷ calls) = Peer visit.before ∷ peers_of calls
peers_of (Untaken ∷ calls) = peers_of calls

-- what is done for one: the connection is taken, left with the status of the reply if that was written whole, and then
-- ended; or it could not be taken
abbrev pub deeds_of : {P O : Type 0} → Call P → List (Done (Caller P O))
deeds_of (OfPeer visit answered) =
    ([], deed.Taken Waiting (Peer visit.before)) ∷ ([], deed.Left (Peer visit.after) (written_whole answered))
    ∷ ([], deed.Ended (Peer visit.gone)) ∷ []
deeds_of Untaken = ([], deed.UntakenPeer) ∷ []

abbrev pub deeds_with : {P O : Type 0} → List (Call P) → List (Done (Caller P O))
deeds_with [] = []
deeds_with (call ∷ calls) = deeds_of call ++ deeds_with calls

-- the message that came first with its outcome, if a message did
abbrev pub exchanges_at : {P : Type 0} → Call P → List Exchange
exchanges_at (OfPeer visit answered) = exchanges_of visit.first
exchanges_at Untaken = []

-- the exchanges with all peers, in the order of their connections
abbrev pub exchanges_in : {P : Type 0} → List (Call P) → List Exchange
exchanges_in [] = []
exchanges_in (call ∷ calls) = exchanges_at call ++ exchanges_in calls

module _ {P O : Type 0} (heard : P → Account × Reads) (written : P → Option (List ℕ) × Writes)
    (known : Known P O) where
  -- A peer was new, what it sent first was answered to it, and nothing else was written to it. Its connection was ended
  -- as that of one who got a reply with this status, or none.
  abbrev pub IsServed : Call P → Type 0
  IsServed (OfPeer visit answered) =
      known.is_new (Peer visit.before) × IsAnsweredAs heard written visit answered
      × known.is_ended visit.after (written_whole answered) visit.gone
  IsServed Untaken = Unit {0}

  -- One connection was taken, answered, left and ended, or it could not be taken. Nothing else was done, and the store
  -- went through the message that came over it.
  pub record AnswersNext (door left : Door (Caller P O)) (old new : Shown) : Type 0 where
    pub call : Call P
    pub came : Come door.0 left.0 (peers_of (call ∷ []))
    pub done : left.1 ≡ door.1 ++ deeds_of call
    pub served : IsServed call
    pub through : GoesThrough old new (exchanges_at call)

  -- So it was with this many connections, one after another, no more and no fewer. Nothing else was done, and the
  -- store went through the messages that came over them, in their order, and through nothing else.
  pub record AnswersEach (door left : Door (Caller P O)) (old new : Shown) (connections : ℕ) : Type 0 where
    pub calls : List (Call P)
    pub count : length calls ≡ connections
    pub came : Come door.0 left.0 (peers_of calls)
    pub done : left.1 ≡ door.1 ++ deeds_with calls
    pub served : All IsServed calls
    pub through : GoesThrough old new (exchanges_in calls)
