-- A list of publishes that was accepted changes nothing when it comes again.
use Rattle.std.proofs.Common.{◌≡◌, ℕ, List, [], ◌∷◌, true, cond, refl, ◌∙◌, sym, ap, subst, Option, Some, None, inl}
use Rattle.std.proofs.Common.{inr}
use Rattle.std.specs.Prelude.{option_map}
use Rattle.std.specs.FinMap as map
use Rattle.std.proofs.lemmas.Bool.{and_from}
use Rattle.world.specs.declared.entry.Place.{Place}
use Rattle.world.specs.declared.entry.Entry.{Entry}
use Rattle.world.specs.declared.entry.Seen.{Seen}
use Rattle.world.specs.declared.entry.Holder.{Holder}
use Rattle.world.specs.declared.entry.Right.TheVariants.{Publishes}
use Rattle.machine.specs.declared.request.Publish.{Publish}
use Rattle.machine.specs.declared.request.Request.TheVariants.{Put}
use Rattle.machine.specs.declared.request.Event.{Event}
use Rattle.machine.specs.declared.request.Event.TheVariants.{Requested}
use Rattle.machine.specs.declared.reply.Decision.{Decision}
use Rattle.machine.specs.declared.reply.Decision.TheVariants.{Published, Same}
use Rattle.machine.specs.declared.reply.Reply.{Reply}
use Rattle.machine.specs.declared.reply.Reply.TheVariants as reply
use Rattle.machine.specs.declared.reply.Answer.{Answer}
use Rattle.machine.specs.declared.reply.Answer.TheVariants.{Replied, Failed}
use Rattle.world.specs.World.{World, IsWorld, count}
use Rattle.world.specs.Standing.{same_time, same_entry}
use Rattle.world.specs.declared.standing.Standing.TheVariants as standing
use Rattle.machine.specs.Machine.{decision, gomod_of, offered, standing_if, standing_of, after_decision, stored}
use Rattle.machine.specs.Machine.{place_of}
use Rattle.machine.specs.Machine.{after, Run}
use Rattle.machine.specs.Isolation.{belongs}
use Rattle.machine.specs.Immutability.{IsAccepted, IsAcceptance, AllAccepted, AllSameOrFailed, puts}
use Rattle.machine.specs.Immutability.{RepeatedListChangesNothing}
use Rattle.world.proofs.Orders.{text_self}
use Rattle.machine.proofs.Checks.{same_decided}
use Rattle.machine.proofs.Sound.{sound}
use Rattle.machine.proofs.Chains.{stands_after, stands_through}
use Rattle.machine.proofs.Served.{IsServed, served_first, still_served, shelf_stands}

-- ---- one publish

same_time_itself : (t : Option (List ℕ)) → same_time t t ≡ true
same_time_itself None = refl
same_time_itself (Some t) = text_self t

same_itself : (e : Entry) → same_entry e e ≡ true
same_itself e = and_from _ _ (and_from _ _ (text_self e.gomod) (text_self e.zip)) (same_time_itself e.time)

served_is_same : (w : World) (s : List ℕ) (p : Publish) → IsServed w s p
    → decision w (Some (record { shelf = s; right = Publishes })) p ≡ Same
served_is_same w s p it =
    let e : Entry = it.seen.entry in
    let same : standing_of w s p ≡ standing.Same =
    ap (λ o. standing_if (option_map (λ (x : Seen). x.entry) o) (offered p)) it.is_seen
    ∙ ap (standing_if (Some e)) it.is_offered ∙ ap (λ b. cond b standing.Same standing.Other) (same_itself e) in
    same_decided p (Some Publishes) (gomod_of p) (standing_of w s p) (count w s p.path) it.passing same

-- ---- the list for the first time

-- all of these are seen by s as they were handed in
abbrev AllServed : World → List ℕ → List Publish → Type 0
AllServed w s [] = Unit {0}
AllServed w s (p ∷ ps) = IsServed w s p × AllServed w s ps

keys_stored : (w : World) (q : Place) (o : Option Entry) → (stored w q o).keys ≡ w.keys
keys_stored w q None = refl
keys_stored w q (Some e) = refl

keys_decided : (w : World) (h : Option Holder) (p : Publish) (d : Decision) → (after_decision w h p d).keys ≡ w.keys
keys_decided w (Some h) p Published = keys_stored w (place_of h.shelf p) (offered p)
keys_decided w h p d = refl

belongs_after : (w : World) (s k j : List ℕ) (p : Publish) → belongs w k s → belongs (after w (Requested (Put j p))) k s
belongs_after w s k j p own = (
  own.0,
  ap (λ m. map.get m k) (keys_decided w (map.get w.keys j) p (decision w (map.get w.keys j) p))
      ∙ own.1,
  own.2,
)

acceptance : (r : Reply) → IsAcceptance (Replied r) → (d : Decision) × (r ≡ reply.Decided d) × IsAccepted d
acceptance (reply.Decided d) is = (d, refl, is)
acceptance r is = absurd is

-- after a run that accepted each of these publishes with a key of s, s sees each as it was handed in
all_served : (w mid : World) (s k : List ℕ) (ps : List Publish) (answers : List Answer) → IsWorld w → belongs w k s
    → Run w (puts k ps) answers mid → AllAccepted answers → AllServed mid s ps
all_served w mid s k [] answers is own run all = tt
all_served w mid s k (p ∷ ps) [] is own run all = absurd run
all_served w mid s k (p ∷ ps) (Failed fault ∷ answers) is own run all = absurd all.0
all_served w mid s k (p ∷ ps) (Replied r ∷ answers) is own run all =
    let e : Event = Requested (Put k p) in
    let first = acceptance r all.0 in
    let stands = (stands_after w s e (shelf_stands w s k is own)).stands in
    let served = served_first w s k p first.0 own (sym first.1 ∙ run.0) first.2 in (
      still_served (after w e) mid s p (puts k ps) answers stands run.1 served,
      all_served (after w e) mid s k ps answers (sound w e is) (belongs_after w s k k p own) run.1 all.1,
    )

all_through : (w new : World) (s : List ℕ) (ps : List Publish) (es : List Event) (answers : List Answer)
    → map.contains_key w.shelves s ≡ true → Run w es answers new → AllServed w s ps → AllServed new s ps
all_through w new s [] es answers stands run served = tt
all_through w new s (p ∷ ps) es answers stands run served =
    (still_served w new s p es answers stands run served.0, all_through w new s ps es answers stands run served.1)

-- ---- the list again

again_same : (w : World) (s k : List ℕ) (p : Publish)
    → map.get w.keys k ≡ Some (record { shelf = s; right = Publishes })
    → IsServed w s p → (decision w (map.get w.keys k) p ≡ Same) × (after w (Requested (Put k p)) ≡ w)
again_same w s k p may served =
    let same = served_is_same w s p served in (
      ap (λ o. decision w o p) may ∙ same,
      ap (λ o. after_decision w o p (decision w o p)) may
          ∙ ap (after_decision w (Some (record { shelf = s; right = Publishes })) p) same,
    )

-- publishes that the shelf serves already are answered Same, or fail, and change nothing
again : (w new : World) (s k : List ℕ) (ps : List Publish) (answers : List Answer)
    → map.get w.keys k ≡ Some (record { shelf = s; right = Publishes })
    → AllServed w s ps → Run w (puts k ps) answers new → AllSameOrFailed answers × (new ≡ w)
again w new s k [] [] may served run = (tt, run)
again w new s k [] (a ∷ answers) may served run = absurd run
again w new s k (p ∷ ps) [] may served run = absurd run
again w new s k (p ∷ ps) (Failed fault ∷ answers) may served run = let rest =
    again w new s k ps answers may served.1 run in ((inr tt, rest.0), rest.1)
again w new s k (p ∷ ps) (Replied r ∷ answers) may served run =
    let same = again_same w s k p may served.0 in
    let rest = again w new s k ps answers may served.1 (subst (λ x. Run x (puts k ps) answers new) same.1 run.1) in
    ((inl (ap Replied (run.0 ∙ ap reply.Decided same.0)), rest.0), rest.1)

pub repeated_list_changes_nothing : RepeatedListChangesNothing
repeated_list_changes_nothing old mid later new s k second ps events accepted told repeated is own first all between may
    run =
    let stands = (stands_through old mid s (puts k ps) accepted (shelf_stands old s k is own) first).stands in
    again later new s second ps repeated may
    (all_through mid later s ps events told stands between (all_served old mid s k ps accepted is own first all))
    run
