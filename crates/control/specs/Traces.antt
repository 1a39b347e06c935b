-- What is written while callers are served: a line for each order, and what there is to say of faults and of room.
use Rattle.std.specs.Prelude.{ℕ, ◌≡◌, ◌⊎◌, List, ◌∷◌, [], ◌++◌, Option, Some, None, Result, Ok, Err}
use Rattle.histories.specs.Account.{Account}
use Rattle.histories.specs.Calls.{Reads, Writes}
use Rattle.world.specs.Store.{Shown}
use Rattle.engine.specs.declared.fault.Io.{Io}
use Rattle.socket.specs.History.{Door, Known}
use Rattle.socket.specs.declared.callers.Caller.{Caller}
use Rattle.control.specs.Copying.{Making}
use Rattle.control.specs.Finds.{AreOfMoments, ForPeer, Looked, Moment, WritesAndDoes, dids, wrotes}
use Rattle.control.specs.Hearing.{Heard, done_notice}
use Rattle.control.specs.Noted.{IsNoted, LooksOnce, Noted, TellsFault}
use Rattle.control.specs.Notices.{Answered, Lost, Occasion, WritesLines, line_of}
use Rattle.control.specs.Reserve.{DiskDeed, Lent}
use Rattle.control.specs.Uses.{IsUseIf}
use Rattle.control.specs.Visits.{Call, EndsEach, IsLong, OfOperator, OfPeer, Untaken}
use Rattle.control.specs.declared.control_reply.ControlReply.{ControlReply}
use Rattle.control.specs.declared.control_reply.ControlReply.TheVariants as spoken
use Rattle.control.specs.declared.faults.RecentFaults.{RecentFaults}
use Rattle.control.specs.declared.reserve.Room.{Room}

-- what was done is told of, and if nothing was, the outcome that the operator was told
abbrev pub or_told : Option Occasion → Result ControlReply Io → Option Occasion
or_told (Some about) said = Some about
or_told None (Ok (spoken.Outcome outcome)) = Some (Answered outcome)
or_told None (Ok (spoken.Health lines)) = None
or_told None (Ok (spoken.List lines)) = None
or_told None (Err e) = None

-- so it is of what an operator's line ordered, or of a line that was not read
abbrev pub occasion_of : Option Heard → Result ControlReply Io → Option Occasion
occasion_of None said = or_told None said
occasion_of (Some heard) said = or_told (done_notice heard said) said

-- what was done for an operator is noted; nothing was if no line was read
abbrev pub IsDoneNoted : Option Heard → Result ControlReply Io → Option Noted → Type 0
IsDoneNoted None said noted = noted ≡ None
IsDoneNoted (Some heard) said noted = IsNoted (done_notice heard said) noted

-- the line is that of this occasion, or says that memory ran out for it
abbrev pub IsLineFor : Occasion → List ℕ → Type 0
IsLineFor about line = (line ≡ line_of about) ⊎ (line ≡ line_of Lost)

-- there is one line for this occasion, or none if there is no occasion
abbrev pub AreFor : Option Occasion → List (List ℕ) → Type 0
AreFor None lines = lines ≡ []
AreFor (Some about) lines = (line : List ℕ) × (lines ≡ line ∷ []) × IsLineFor about line

-- the lines for an order, behind which the reserve was looked for
abbrev pub TellsOrder : Option Heard → Result ControlReply Io → Room → Room → List (List ℕ) → List DiskDeed → Type 0
TellsOrder heard said found found_new lines deeds =
    (own : List (List ℕ)) × (room : List (List ℕ)) × (lines ≡ own ++ room) × AreFor (occasion_of heard said) own
    × LooksOnce found found_new room deeds

-- the order used the reserve as it may, before its lines were written so
abbrev pub UsesAndTells : Option Heard → Result ControlReply Io → Room → Room → List (List ℕ) → List DiskDeed → Type 0
UsesAndTells heard said found found_new lines deeds =
    (used : List DiskDeed) × (looks : List DiskDeed) × (deeds ≡ used ++ looks) × IsUseIf heard used
    × TellsOrder heard said found found_new lines looks

module _ {P O : Type 0} where
  -- The moments are those of these callers, in their order. For a peer the reserve was looked for first, and then there
  -- is at most one line of a fault. An order first used the reserve as `IsUse` allows, or a copy was begun for it,
  -- unless another was being made. Then come, where something was made for it, callers who were served meanwhile; and
  -- then its own line, and that the reserve was looked for. The faults that are remembered go on by those of each peer.
  abbrev pub HasMoments : RecentFaults → RecentFaults → List (Call P O) → List Moment → Type 0
  HasMoments faults faults_new [] moments = (moments ≡ []) × (faults_new ≡ faults)
  HasMoments faults faults_new (OfPeer visit answered ∷ calls) moments =
      (mid : RecentFaults) × (found : Room) × (room : List (List ℕ)) × (looks : List DiskDeed) × (fault : List (List ℕ))
      × (rest : List Moment) × (moments ≡ ForPeer found room looks ∷ (wrotes fault ++ rest))
      × TellsFault faults mid fault × HasMoments mid faults_new calls rest
  HasMoments faults faults_new (OfOperator x ∷ calls) moments =
      (used : List DiskDeed) × (inner : List Moment) × (own : List (List ℕ)) × (found : Room) × (room : List (List ℕ))
      × (rest : List Moment) × (moments ≡ dids used ++ (inner ++ (wrotes own ++ Looked found room ∷ rest)))
      × IsUseIf x.heard used × ((inner ≡ []) ⊎ IsLong x.heard) × AreFor (occasion_of x.heard x.told) own
      × HasMoments faults faults_new calls (inner ++ rest)
  HasMoments faults faults_new (Untaken ∷ calls) moments = HasMoments faults faults_new calls moments

  -- the lines and the deeds are those of such moments
  pub record HasTraces (calls : List (Call P O)) (faults faults_new : RecentFaults) (found found_new : Room)
      (lines : List (List ℕ)) (deeds : List DiskDeed) : Type 0 where
    pub moments : List Moment
    pub has : HasMoments faults faults_new calls moments
    pub are : AreOfMoments moments found found_new lines deeds

  -- so it is from the first fault on, where so much of the reserve was found before
  pub record HasAllTraces (found : Room) (calls : List (Call P O)) (lines : List (List ℕ)) (deeds : List DiskDeed) : Type 0
    where
      pub faults : RecentFaults
      pub faults_new : RecentFaults
      pub found_new : Room
      pub none : faults.told.items ≡ []
      pub traces : HasTraces calls faults faults_new found found_new lines deeds

-- what a server tells: what its writer of notices took, with the calls to it, and the faults that are remembered
abbrev pub Log : Type 0
Log = (Option (List ℕ) × Writes) × RecentFaults

-- the lines of these callers were written, and their orders used the reserve
abbrev pub WritesTraces : {P O : Type 0} → List (Call P O) → Log → Log → Lent → Lent → Type 0
WritesTraces calls old new room room_new =
    WritesAndDoes (HasTraces calls old.1 new.1) old.0 new.0 room room_new

-- The callers were served as `EndsEach` says, and their lines were written. Each order used the reserve, of which so
-- much was there before, and each line of the reserve is of what was found then.
pub record TracesEach {P O : Type 0} (heeded : O → Account × Reads) (told : O → Option (List ℕ) × Writes)
    (heard : P → Account × Reads) (written : P → Option (List ℕ) × Writes)
    {S : Type 0} (shown : S → Shown) (made : S → S → Making → Type 0)
    (counted : S → S → ℕ → Type 0) (known : Known P O)
    (door left : Door (Caller P O)) (old new : S) (since : List ℕ) (connections : ℕ)
    (errors errors_new : Option (List ℕ) × Writes) (room : Room) (deeds deeds_new : List DiskDeed) : Type 0 where
  pub ends : EndsEach heeded told heard written shown made counted known door left old new since connections
  pub more : List DiskDeed
  pub are : deeds_new ≡ deeds ++ more
  pub traces : WritesLines (λ lines. HasAllTraces room ends.reads.each.calls lines more) errors errors_new
