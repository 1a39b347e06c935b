-- What is noted of a store that is served, and of the orders of its operators.
use Rattle.std.specs.Prelude.{◌≡◌, ◌≢◌, ◌⊎◌, Bool, true, false, List, [], ◌∷◌, ◌++◌, ℕ, Option, Some, None, Result, Ok, Err}
use Rattle.std.specs.Prelude.{IfOk, cond}
use Rattle.std.specs.declared.time.Instant.{Instant}
use Rattle.std.specs.declared.alloc.AllocError.{AllocError}
use Rattle.engine.specs.declared.fault.Io.{Io}
use Rattle.world.specs.declared.registry.StoreFault.{StoreFault}
use Rattle.control.specs.Faults.{Admits}
use Rattle.control.specs.Notices.{Answered, AtMostOne, IsOfFault, Lost, Met, Occasion, Reserved, line_of}
use Rattle.control.specs.Notices.{room_told}
use Rattle.control.specs.Reserve.{DiskDeed, Renewed, is_whole}
use Rattle.control.specs.Traffic.{CountsOne, StaysUncounted, was_published}
use Rattle.control.specs.declared.faults.RecentFaults.{RecentFaults}
use Rattle.control.specs.declared.reserve.Room.{Room}
use Rattle.control.specs.declared.reserve.Room.TheVariants.{Whole}
use Rattle.control.specs.declared.store_call.StoreCall.{StoreCall}
use Rattle.control.specs.declared.notice.Notice.{Notice}
use Rattle.control.specs.declared.traffic.Traffic.{Traffic}
use Rattle.control.specs.declared.traffic.Transfer.{Transfer}
use Rattle.control.specs.declared.traffic.Transfer.TheVariants.{Publish}
use Rattle.control.specs.declared.control_reply.ControlReply.{ControlReply}
use Rattle.control.specs.declared.control_reply.ControlReply.TheVariants as told

-- a notice, or that memory ran out for it
abbrev pub Noted : Type 0
Noted = Result Notice AllocError

-- the line that is written of it
abbrev pub noted_line : Noted → List ℕ
noted_line (Ok notice) = notice.text
noted_line (Err none) = line_of Lost

-- this occasion is noted, with its line, unless memory ran out for the line
abbrev pub IsAbout : Occasion → Option Noted → Type 0
IsAbout about None = ⊥
IsAbout about (Some noted) = IfOk noted (λ notice. notice.text ≡ line_of about)

-- so it is of an occasion, if there is one; otherwise nothing is noted
abbrev pub IsNoted : Option Occasion → Option Noted → Type 0
IsNoted None noted = noted ≡ None
IsNoted (Some about) noted = IsAbout about noted

-- it is noted that memory ran out
abbrev pub IsLost : Option Noted → Type 0
IsLost None = ⊥
IsLost (Some (Ok notice)) = ⊥
IsLost (Some (Err none)) = Unit {0}

-- a call that met a fault is noted; after any other call what is noted is what it was
abbrev pub NotesFault : {X : Type 0} → StoreCall → Result X StoreFault → Option Noted → Option Noted → Type 0
NotesFault asked (Ok x) old new = new ≡ old
NotesFault asked (Err fault) old new = IsAbout (Met asked fault) new

-- one transfer of a shelf was counted, and nothing noted; or memory ran out for the counts of the shelf, which is noted
abbrev pub CountsOrNotes : Transfer → List ℕ → Traffic → Traffic → Option Noted → Option Noted → Type 0
CountsOrNotes transfer shelf counts counts_new old new =
    (CountsOne transfer shelf counts counts_new × (new ≡ old))
    ⊎ (StaysUncounted shelf counts counts_new × IsLost new)

-- so it is if this is true; otherwise nothing is counted or noted
abbrev pub CountsIf : Bool → Transfer → List ℕ → Traffic → Traffic → Option Noted → Option Noted → Type 0
CountsIf true transfer shelf counts counts_new old new = CountsOrNotes transfer shelf counts counts_new old new
CountsIf false transfer shelf counts counts_new old new = (counts_new ≡ counts) × (new ≡ old)

-- so it is of a call that met no fault; a fault is noted, and nothing is counted
abbrev pub CountsUnmet : {X : Type 0} → Bool → StoreCall → Result X StoreFault → Transfer → List ℕ → Traffic → Traffic
    → Option Noted → Option Noted → Type 0
CountsUnmet done asked (Ok x) transfer shelf counts counts_new old new =
    CountsIf done transfer shelf counts counts_new old new
CountsUnmet done asked (Err fault) transfer shelf counts counts_new old new =
    (counts_new ≡ counts) × IsAbout (Met asked fault) new

-- so it is of a publish; while publishes are held back, nothing is counted or noted
abbrev pub CountsUnheld : Bool → StoreCall → Result (Unit {0}) StoreFault → List ℕ → Traffic → Traffic → Option Noted
    → Option Noted → Type 0
CountsUnheld true asked result shelf counts counts_new old new = (counts_new ≡ counts) × (new ≡ old)
CountsUnheld false asked result shelf counts counts_new old new =
    CountsUnmet (was_published result) asked result Publish shelf counts counts_new old new

-- what was done for an operator is noted; if nothing was, the outcome that it was told is
abbrev pub NotesTold : Option Noted → Result ControlReply Io → Option Noted → Type 0
NotesTold (Some done) said new = new ≡ Some done
NotesTold None (Ok (told.Outcome outcome)) new = IsAbout (Answered outcome) new
NotesTold None other new = new ≡ None

-- the lines that are written of what is noted: its own, or none if nothing is
abbrev pub AreOf : Option Noted → List (List ℕ) → Type 0
AreOf None lines = lines ≡ []
AreOf (Some noted) lines = lines ≡ noted_line noted ∷ []

-- so it is of a fault that is admitted behind those of the last minute, and no other is told
abbrev pub AreUnheld : RecentFaults → RecentFaults → Option Noted → List (List ℕ) → Type 0
AreUnheld faults faults_new None lines = (lines ≡ []) × (faults_new ≡ faults)
AreUnheld faults faults_new (Some noted) lines =
    (now : Option Instant) × (admitted : Bool) × Admits now faults faults_new (noted_line noted) admitted
    × (lines ≡ cond admitted (noted_line noted ∷ []) [])

-- so it is of the room on the disk: whether all of it is there is written if how much there is changed
abbrev pub AreOfRoom : Room → Room → List (List ℕ) → Type 0
AreOfRoom old new lines =
    ((new ≡ old) × (lines ≡ []))
    ⊎ ((new ≢ old) × (told : Noted) × IsAbout (Reserved (room_told (is_whole new))) (Some told)
    × (lines ≡ noted_line told ∷ []))

-- the reserve was looked for once, so much of it was found, and these lines were written of that
abbrev pub LooksOnce : Room → Room → List (List ℕ) → List DiskDeed → Type 0
LooksOnce old new lines deeds = AreOfRoom old new lines × (deeds ≡ Renewed new ∷ [])

-- so it was, unless all of it was there when it was last looked for
abbrev pub LooksUnlessWhole : Room → Room → List (List ℕ) → List DiskDeed → Type 0
LooksUnlessWhole old new lines deeds =
    ((old ≡ Whole) × (new ≡ old) × (lines ≡ []) × (deeds ≡ [])) ⊎ ((old ≢ Whole) × LooksOnce old new lines deeds)

-- the lines that are written of what is noted come first, and then the reserve is looked for
abbrev pub NotesAndLooks : Option Noted → Room → Room → List (List ℕ) → List DiskDeed → Type 0
NotesAndLooks noted found found_new lines deeds =
    (own : List (List ℕ)) × (room : List (List ℕ)) × (lines ≡ own ++ room) × AreOf noted own
    × LooksOnce found found_new room deeds

-- the lines are at most one of a fault that a store noted, which is admitted behind those of the last minute
pub record TellsFault (faults faults_new : RecentFaults) (lines : List (List ℕ)) : Type 0 where
  pub of_fault : AtMostOne IsOfFault lines
  pub noted : Option Noted
  pub unheld : AreUnheld faults faults_new noted lines

-- The lines that are written for a peer: those of what was found of the reserve, unless all of it had been there, and
-- then at most one of a fault.
pub record TellsPeer (faults faults_new : RecentFaults) (found found_new : Room) (lines : List (List ℕ))
    (deeds : List DiskDeed) : Type 0 where
  pub room : List (List ℕ)
  pub fault : List (List ℕ)
  pub are : lines ≡ room ++ fault
  pub looks : LooksUnlessWhole found found_new room deeds
  pub tells : TellsFault faults faults_new fault
