-- What is noted of a store that is served.
use Rattle.std.proofs.Common.{◌≡◌, ◌≢◌, ◌∙◌, ℕ, List, [], ◌∷◌, Option, Some, None, Result, Ok, Err, inl, inr, refl}
use Rattle.std.proofs.Common.{subst, sym, true, false}
use Rattle.std.specs.Option.{ForSome}
use Rattle.std.specs.declared.time.Instant.{Instant}
use Rattle.histories.specs.Calls.{Writes}
use Rattle.world.specs.declared.registry.StoreFault.{StoreFault}
use Rattle.control.specs.Faults.{Admits}
use Rattle.control.specs.Finds.{WritesAndDoes}
use Rattle.control.specs.Noted.{AreOf, AreOfRoom, AreUnheld, CountsIf, CountsUnmet, IsAbout, LooksUnlessWhole, Noted}
use Rattle.control.specs.Noted.{NotesFault, TellsPeer, noted_line}
use Rattle.control.specs.Notices.{AtMostOne, IsLineAbout, IsOfFault, Lost, Met, Occasion, Reserved}
use Rattle.control.specs.Notices.{WritesLines, room_told}
use Rattle.control.specs.Reserve.{DiskDeed, Lent, is_whole}
use Rattle.control.specs.Traffic.{was_found, was_published}
use Rattle.control.specs.declared.faults.RecentFaults.{RecentFaults}
use Rattle.control.specs.declared.reserve.Room.{Room}
use Rattle.control.specs.declared.store_call.StoreCall.{StoreCall}
use Rattle.control.specs.declared.traffic.Traffic.{Traffic}
use Rattle.control.specs.declared.traffic.Transfer.{Transfer}
use Rattle.control.proofs.FindLemmas.{does_before}
use Rattle.control.proofs.NoticeLemmas.{none_written, written_so}

module _ (asked : StoreCall) (transfer : Transfer) (shelf : List ℕ) (before counts counts_new : Traffic)
    (old noted new : Option Noted) (same : counts ≡ before) where
  -- a call that looked for something, after which its fault was noted and then what it found was counted
  pub found_counts : {X : Type 0} (told : Result (Option X) StoreFault) → NotesFault asked told old noted
      → CountsIf (was_found told) transfer shelf counts counts_new noted new
      → CountsUnmet (was_found told) asked told transfer shelf before counts_new old new
  found_counts (Ok found) is some =
      subst (λ t. CountsIf (was_found (Ok found)) transfer shelf t counts_new old new) same
      (subst (λ n. CountsIf (was_found (Ok found)) transfer shelf counts counts_new n new) is some)
  found_counts (Err fault) is some = (some.0 ∙ same, subst (IsAbout (Met asked fault)) (sym some.1) is)

  -- so it is of a publish
  pub published_counts : (told : Result (Unit {0}) StoreFault) → NotesFault asked told old noted
      → CountsIf (was_published told) transfer shelf counts counts_new noted new
      → CountsUnmet (was_published told) asked told transfer shelf before counts_new old new
  published_counts (Ok done) is some =
      subst (λ t. CountsIf (was_published (Ok done)) transfer shelf t counts_new old new) same
      (subst (λ n. CountsIf (was_published (Ok done)) transfer shelf counts counts_new n new) is some)
  published_counts (Err fault) is some = (some.0 ∙ same, subst (IsAbout (Met asked fault)) (sym some.1) is)

-- ---- the lines of what is noted

-- nothing was noted
pub no_line : (noted : Option Noted) (a : Option (List ℕ) × Writes) → noted ≡ None → WritesLines (AreOf noted) a a
no_line noted a is = none_written (AreOf noted) a (subst (λ n. AreOf n []) (sym is) refl)

-- this was noted, and its line written
pub its_line : (noted : Noted) (old : Option Noted) (a b : Option (List ℕ) × Writes) → old ≡ Some noted
    → WritesLines (λ lines. lines ≡ noted_line noted ∷ []) a b → WritesLines (AreOf old) a b
its_line noted old a b is written =
    subst (λ o. WritesLines (AreOf o) a b) (sym is) written

-- what there is of the room on the disk was noted, and its line written
pub room_written : (old new : Room) (told : Noted) (a b : Option (List ℕ) × Writes) → new ≢ old
    → IsAbout (Reserved (room_told (is_whole new))) (Some told)
    → WritesLines (λ lines. lines ≡ noted_line told ∷ []) a b → WritesLines (AreOfRoom old new) a b
room_written old new told a b changed about written =
    written_so (λ lines. lines ≡ noted_line told ∷ []) (AreOfRoom old new) a b
    (λ lines it. inr (changed, told, about, it)) written

module _ (faults faults_new : RecentFaults) where
  -- what a store noted is held back
  pub held_fault : (now : Option Instant) (noted : Noted) (old : Option Noted) (a : Option (List ℕ) × Writes)
      → old ≡ Some noted → Admits now faults faults_new (noted_line noted) false
      → WritesLines (AreUnheld faults faults_new old) a a
  held_fault now noted old a is admits =
      none_written (AreUnheld faults faults_new old) a
      (subst (λ n. AreUnheld faults faults_new n []) (sym is) (now, false, admits, refl))

  -- what it noted was written
  pub its_fault : (now : Option Instant) (noted : Noted) (old : Option Noted) (a b : Option (List ℕ) × Writes)
      → old ≡ Some noted → Admits now faults faults_new (noted_line noted) true
      → WritesLines (λ lines. lines ≡ noted_line noted ∷ []) a b → WritesLines (AreUnheld faults faults_new old) a b
  its_fault now noted old a b is admits written =
      subst (λ o. WritesLines (AreUnheld faults faults_new o) a b) (sym is)
      (written_so (λ lines. lines ≡ noted_line noted ∷ []) (AreUnheld faults faults_new (Some noted)) a b
      (λ lines it. (now, true, admits, it)) written)

-- a store noted nothing
pub no_fault : (faults : RecentFaults) (old : Option Noted) (a : Option (List ℕ) × Writes) → old ≡ None
    → WritesLines (AreUnheld faults faults old) a a
no_fault faults old a is =
    none_written (AreUnheld faults faults old) a (subst (λ n. AreUnheld faults faults n []) (sym is) (refl, refl))

-- ---- lines that no order has

-- the line of what is noted of such an occasion is one
pub line_about : (such : Occasion → Type 0) (about : Occasion) (noted : Noted) → such about → such Lost
    → IsAbout about (Some noted) → IsLineAbout such (noted_line noted)
line_about such about (Ok notice) so lost is = ∣ (about, so, is) ∣₁
line_about such about (Err none) so lost is = ∣ (Lost, lost, refl) ∣₁

abbrev OfFault : Option Noted → Type 0
OfFault None = Unit {0}
OfFault (Some noted) = IsLineAbout IsOfFault (noted_line noted)

-- so it is of what a store noted
pub some_of_fault : (noted : Noted) → IsLineAbout IsOfFault (noted_line noted)
    → ForSome (Some noted) (λ n. IsLineAbout IsOfFault (noted_line n))
some_of_fault noted is = λ x same. subst OfFault same is

-- those of the fault that a store noted
fault_at_most : (faults faults_new : RecentFaults) (noted : Option Noted) (lines : List (List ℕ))
    → ForSome noted (λ n. IsLineAbout IsOfFault (noted_line n)) → AreUnheld faults faults_new noted lines
    → AtMostOne IsOfFault lines
fault_at_most faults faults_new None lines of are = inl are.0
fault_at_most faults faults_new (Some noted) lines of (now, true, admits, is) =
    inr (noted_line noted, is, of noted refl)
fault_at_most faults faults_new (Some noted) lines of (now, false, admits, is) = inl is

-- those of the room, where it was not looked for if all of it was there
room_unless_whole : (old new : Room) (lines : List (List ℕ)) (deeds : List DiskDeed)
    → LooksUnlessWhole old new lines deeds → AreOfRoom old new lines
room_unless_whole old new lines deeds (inl (whole, same, none, idle)) = inl (same, none)
room_unless_whole old new lines deeds (inr looks) = looks.1.0

pub room_written_unless_whole : (e f : Option (List ℕ) × Writes) (a b : Lent) → WritesAndDoes LooksUnlessWhole e f a b
    → WritesLines (AreOfRoom a.1 b.1) e f
room_written_unless_whole e f a b (same, ds, is, wrote) =
    written_so (λ lines. LooksUnlessWhole a.1 b.1 lines ds) (AreOfRoom a.1 b.1) e f
    (λ lines looks. room_unless_whole a.1 b.1 lines ds looks) wrote

-- those of a peer
pub peer_written : (faults faults_new : RecentFaults) (noted : Option Noted) (e f g : Option (List ℕ) × Writes)
    (a b : Lent) → ForSome noted (λ n. IsLineAbout IsOfFault (noted_line n)) → WritesAndDoes LooksUnlessWhole e f a b
    → WritesLines (AreUnheld faults faults_new noted) f g → WritesAndDoes (TellsPeer faults faults_new) e g a b
peer_written faults faults_new noted e f g a b of one two =
    does_before LooksUnlessWhole (AreUnheld faults faults_new noted) (TellsPeer faults faults_new) e f g a b
    (λ room fault deeds looks are. record {
      room = room;
      fault = fault;
      are = refl;
      looks = looks;
      tells = record {
        of_fault = fault_at_most faults faults_new noted fault of are;
        noted = noted;
        unheld = are;
      };
    }) one two
