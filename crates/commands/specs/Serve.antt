-- Serving connections from a store, and orders between them, by the history of who came in.
use Rattle.std.specs.Prelude.{ℕ, ◌≡◌, ◌++◌, ◌⊎◌, Bool, true, false, List, [], ◌∷◌, codes, decimal, Option, Some, None}
use Rattle.std.specs.Prelude.{IfOk, Result, Ok, Err}
use Rattle.std.specs.Io.KnownBytes.{Appends}
use Rattle.histories.specs.Account.{Account}
use Rattle.histories.specs.Calls.{Reads, Writes}
use Rattle.world.specs.Store.{HasCause, Shown}
use Rattle.world.specs.declared.registry.StoreFault.{StoreFault}
use Rattle.socket.specs.Connections.{GoesThroughMost}
use Rattle.socket.specs.History.{Does, Door, IsBoundFor, Known}
use Rattle.socket.specs.Serving.{AnswersEach}
use Rattle.socket.specs.declared.callers.Caller.{Caller}
use Rattle.socket.specs.declared.deed.Deed.TheVariants as deed
use Rattle.socket.specs.declared.deed.ListenOn.{ListenOn}
use Rattle.socket.specs.declared.deed.ListenOn.TheVariants.{Port, Input}
use Rattle.control.specs.WallClock.{Shows}
use Rattle.control.specs.Copying.{Making, GoesOnRead, IsOnlyRead}
use Rattle.control.specs.Notices.{Ended, Reserved, WritesLines, opened, room_told}
use Rattle.control.specs.Reserve.{DiskDeed, Made as RoomMade, is_whole}
use Rattle.control.specs.Traces.{HasAllTraces, IsLineFor}
use Rattle.control.specs.Visits.{Call, EndsEach}
use Rattle.control.specs.declared.reserve.Room.{Room}
use Rattle.commands.specs.Printed.{HasFailed, PrintsFront}
use Rattle.commands.specs.declared.refusal.CommandRefusal.{CommandRefusal}
use Rattle.commands.specs.declared.refusal.CommandRefusal.TheVariants.{Io}

-- the line of a port
abbrev pub port_line : ℕ → List ℕ
port_line port = codes "listening on 127.0.0.1:" ++ (decimal port ++ codes "\n")

-- the line of where peers come in
abbrev pub line_of : ListenOn → List ℕ
line_of (Port port) = port_line port
line_of Input = codes "listening on standard input\n"

-- what is written of the room that is kept for orders: nothing if all of it is there, and otherwise a line that says so
abbrev pub AreOfRoom : Bool → List (List ℕ) → Type 0
AreOfRoom true lines = lines ≡ []
AreOfRoom false lines = (line : List ℕ) × (lines ≡ line ∷ []) × IsLineFor (Reserved (room_told false)) line

-- The lines that a `serve` with operators writes: that the store of this file was opened, with so many versions, that
-- the reserve lacks room if not all of it was found, those that are written while these callers are served and this is
-- done to the reserve, in which each order has its own, and that the store of this file is no longer served.
pub record AreOfServe {P O : Type 0} (file : List ℕ) (versions : Result ℕ StoreFault) (found : Room)
    (calls : List (Call P O)) (lines : List (List ℕ)) (deeds : List DiskDeed) : Type 0 where
  pub first : List ℕ
  pub opens : IsLineFor (opened file versions) first
  pub room : List (List ℕ)
  pub tells_room : AreOfRoom (is_whole found) room
  pub between : List (List ℕ)
  pub traces : HasAllTraces found calls between deeds
  pub last : List ℕ
  pub ends : IsLineFor (Ended file) last
  pub are : lines ≡ first ∷ (room ++ (between ++ last ∷ []))

-- what is made of a store: a relation of it before and after that, and of what was made
abbrev pub Made : Type 0 → Type 1
Made S = S → S → Making → Type 0

-- what a count says, by the store before and after it, and the number
abbrev pub Counted : Type 0 → Type 1
Counted S = S → S → ℕ → Type 0

-- from one moment of the entrances to another, where peers were to be let in, and that was to be printed
module _ {C : Type 0} (door left : Door C) (entrance : ListenOn) (printed printed_new : Option (List ℕ)) where
  -- Peers were let in at the entrance that was asked for, in the place of port 0 at a port, and the line of that one
  -- was printed. Nothing else was opened, and nobody was taken.
  pub record LetsIn : Type 0 where
    pub bound : ListenOn
    pub binds : IsBoundFor entrance bound
    pub listens : Does door left [] (deed.Listens bound)
    pub prints : Appends printed printed_new (line_of bound)

  -- so it was, but a call of the output failed, and a beginning of the line was printed, or all of it
  pub record LetsInUnsaid (writes writes_new : Writes) : Type 0 where
    pub bound : ListenOn
    pub binds : IsBoundFor entrance bound
    pub listens : Does door left [] (deed.Listens bound)
    pub prints : PrintsFront printed printed_new (line_of bound)
    pub cause : HasFailed writes writes_new

  -- no peer was let in, and nothing was printed
  pub record LetsNobodyIn : Type 0 where
    pub deaf : Does door left [] (deed.Deaf entrance)
    pub silent : printed_new ≡ printed

  -- where this was the result, peers were let in and that was printed, or one of both was not
  abbrev pub Opens : Writes → Writes → Result (Unit {0}) CommandRefusal → Type 0
  Opens writes writes_new (Ok u) = LetsIn
  Opens writes writes_new (Err e) = (e ≡ Io) × (LetsInUnsaid writes writes_new ⊎ LetsNobodyIn)

-- nothing was served: no peer was let in, or that was not printed whole; nobody was taken, and the store stays
pub record ServesNobody {C S : Type 0} (old new : S) (entrance : ListenOn) (printed printed_new : Option (List ℕ))
    (writes writes_new : Writes) (door left : Door C) (e : CommandRefusal) : Type 0 where
  pub is_io : e ≡ Io
  pub same : new ≡ old
  pub opens : LetsInUnsaid door left entrance printed printed_new writes writes_new
      ⊎ LetsNobodyIn door left entrance printed printed_new

module _ {P O : Type 0} (heard : P → Account × Reads) (written : P → Option (List ℕ) × Writes)
    (known : Known P O) {S : Type 0} (shown : S → Shown) (old new : S) (entrance : ListenOn)
    (connections : ℕ) (printed printed_new : Option (List ℕ)) (writes writes_new : Writes)
    (door left : Door (Caller P O)) where
  -- Peers were let in, and as many connections of peers as are to be served were. The store went through at most as
  -- many requests.
  pub record AnswersPeers : Type 0 where
    pub begun : Door (Caller P O)
    pub opens : LetsIn door begun entrance printed printed_new
    pub each : AnswersEach heard written known begun left (shown old) (shown new) connections
    pub most : GoesThroughMost (shown old) (shown new) connections

  -- so it was, or nothing was served
  abbrev pub AnswersIfOpen : Result (Unit {0}) CommandRefusal → Type 0
  AnswersIfOpen (Ok u) = AnswersPeers
  AnswersIfOpen (Err e) = ServesNobody old new entrance printed printed_new writes writes_new door left e

-- Callers were served as `EndsEach` says, and their orders used the reserve as they may. Before that, the versions of
-- the store were counted, which only reads it, and failed only for a cause. The lines of all this were written, and
-- nothing else, unless a call to write or to flush failed. The writer of errors is what it took, and the calls to it;
-- `file` is the name of the served file, and so much of the reserve was found before.
pub record TellsEach {P O : Type 0} (heeded : O → Account × Reads) (told : O → Option (List ℕ) × Writes)
    (heard : P → Account × Reads) (written : P → Option (List ℕ) × Writes) (known : Known P O)
    {S : Type 0} (shown : S → Shown) (made : Made S) (counted : Counted S) (old new : S) (connections : ℕ)
    (errors errors_new : Option (List ℕ) × Writes) (file since : List ℕ) (found : Room)
    (deeds deeds_new : List DiskDeed) (door left : Door (Caller P O)) : Type 0 where
  pub mid : S
  pub counts : IsOnlyRead (shown old) (shown mid)
  pub versions : Result ℕ StoreFault
  pub cause : HasCause (shown old) (shown mid) versions
  pub number : IfOk versions (λ n. counted old mid n)
  pub each : EndsEach heeded told heard written shown made counted known door left mid new since connections
  pub more : List DiskDeed
  pub are : deeds_new ≡ deeds ++ more
  pub lines : WritesLines (λ lines. AreOfServe file versions found each.reads.each.calls lines more) errors errors_new

module _ {P O : Type 0} (heeded : O → Account × Reads) (told : O → Option (List ℕ) × Writes)
    (heard : P → Account × Reads) (written : P → Option (List ℕ) × Writes) (known : Known P O)
    {S : Type 0} (shown : S → Shown) (made : Made S) (counted : Counted S) (old new : S)
    (entrance : ListenOn) (connections : ℕ) (printed printed_new : Option (List ℕ)) (writes writes_new : Writes)
    (errors errors_new : Option (List ℕ) × Writes) (file : List ℕ) where
  module _ (since : List ℕ) (found : Room) (deeds deeds_new : List DiskDeed) (door left : Door (Caller P O)) where
    -- Peers were let in, and callers were served: peers, and between them operators, until one of these ended it, or
    -- the connections were used up. The lines of that were written. The store went through at most as many requests as
    -- there are connections, with orders between them, and copies of the machine's world at the moment of each order,
    -- and versions counted in that of each ping, which was told that the server began at this time. Orders that the
    -- disk refused used the reserve.
    pub record ServesCallers : Type 0 where
      pub begun : Door (Caller P O)
      pub opens : LetsIn door begun entrance printed printed_new
      pub each : TellsEach heeded told heard written known shown made counted old new connections errors errors_new
          file since found deeds deeds_new begun left
      pub goes : GoesOnRead shown made counted old new since connections

    -- so it was, or nothing was served, no line was written, and nothing was done to the reserve
    abbrev pub ServesIfOpen : Result (Unit {0}) CommandRefusal → Type 0
    ServesIfOpen (Ok u) = ServesCallers
    ServesIfOpen (Err e) =
        ServesNobody old new entrance printed printed_new writes writes_new door left e × (errors_new ≡ errors)
        × (deeds_new ≡ deeds)

  module _ (times times_new : List (Option (List ℕ))) (deeds deeds_new : List DiskDeed) (door left : Door (Caller P O))
      (result : Result (Unit {0}) CommandRefusal)
    where
      -- without operators: peers were served or not, and then all was closed, no line was written, and no reserve was
      -- kept
      pub record Listens : Type 0 where
        pub unsaid : errors_new ≡ errors
        pub unused : deeds_new ≡ deeds
        pub ended : Door (Caller P O)
        pub serves : AnswersIfOpen heard written known shown old new entrance connections printed printed_new
            writes writes_new door ended result
        pub closes : Does ended left [] deed.Closed

      -- The calendar was read once, and showed a time, the socket at this path was made for operators, the reserve was
      -- made, and callers were served or not. Then the name of the socket was taken away, and all was closed.
      pub record ListensToBoth (path : List ℕ) : Type 0 where
        pub since : List ℕ
        pub shows : Shows times times_new (Some since)
        pub begun : Door (Caller P O)
        pub makes : Does door begun path deed.Made
        pub found : Room
        pub ended : Door (Caller P O)
        pub serves : ServesIfOpen since found (deeds ++ RoomMade found ∷ []) deeds_new begun ended result
        pub removed : Door (Caller P O)
        pub removes : Does ended removed path deed.Removed
        pub closes : Does removed left [] deed.Closed

      -- The calendar was read once. It showed no time, and nothing was opened; or it showed one, the socket at this path
      -- can't be made, and nothing else was opened. Nothing was printed, no line was written, no reserve was kept, and
      -- the store stays as it was.
      pub record ListensToNobody (path : List ℕ) : Type 0 where
        pub is_io : result ≡ Err Io
        pub same : new ≡ old
        pub silent : printed_new ≡ printed
        pub unsaid : errors_new ≡ errors
        pub unused : deeds_new ≡ deeds
        pub opens : (Shows times times_new None × (left ≡ door))
            ⊎ ((since : List ℕ) × Shows times times_new (Some since) × Does door left path deed.Unmade)

      -- serving without a socket of operators, or with one
      abbrev pub ListensAs : Option (List ℕ) → Type 0
      ListensAs None = Listens
      ListensAs (Some path) = ListensToBoth path ⊎ ListensToNobody path
