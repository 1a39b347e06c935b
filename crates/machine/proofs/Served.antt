-- What was served or accepted once is served for good.
use Rattle.std.proofs.Common.{◌≡◌, ℕ, List, true, false, cond, refl, ◌∙◌, sym, ap, subst, Option, Some, None, inl, inr}
use Rattle.std.specs.Prelude.{bytes_eq, ◌&&◌, option_map}
use Rattle.std.specs.Option.{option_or}
use Rattle.std.specs.FinMap as map
use Rattle.std.proofs.lemmas.Bool.{true≢false, and_parts}
use Rattle.modver.specs.SemanticVersion.{version_text}
use Rattle.world.specs.declared.entry.Entry.{Entry}
use Rattle.world.specs.declared.entry.Seen.{Seen}
use Rattle.world.specs.declared.entry.Holder.{Holder}
use Rattle.world.specs.declared.entry.Right.TheVariants.{Publishes}
use Rattle.machine.specs.declared.request.Body.{Body}
use Rattle.machine.specs.declared.request.Query.{Query}
use Rattle.machine.specs.declared.request.Query.TheVariants as query
use Rattle.machine.specs.declared.request.Publish.{Publish}
use Rattle.machine.specs.declared.request.Request.TheVariants.{Put}
use Rattle.machine.specs.declared.request.Event.{Event}
use Rattle.machine.specs.declared.request.Event.TheVariants.{Requested}
use Rattle.machine.specs.declared.reply.Decision.{Decision}
use Rattle.machine.specs.declared.reply.Decision.TheVariants.{Published, Same}
use Rattle.machine.specs.declared.reply.Reply.{Reply}
use Rattle.machine.specs.declared.reply.Reply.TheVariants as reply
use Rattle.machine.specs.declared.reply.Answer.{Answer}
use Rattle.machine.specs.declared.reply.Answer.TheVariants.{Replied, Failed}
use Rattle.world.specs.World.{World, IsWorld, group_of, above, seen_at, first_on, view, without_zip, heading}
use Rattle.world.specs.Standing.{same_time, same_entry, standing_to, entry_seen}
use Rattle.world.specs.declared.standing.Standing.TheVariants as standing
use Rattle.machine.specs.Machine.{decision, gomod_of, offered, entry_of, standing_if, standing_of, gomod_reply}
use Rattle.machine.specs.Machine.{zip_reply}
use Rattle.machine.specs.Machine.{info_reply, query_reply, keyed_reply, after_decision, stored, place_of, after, Run}
use Rattle.machine.specs.Isolation.{belongs}
use Rattle.machine.specs.Immutability.{IsOfVersion, IsFound, StaysServed, IsAccepted, asks_back, AcceptedIsServed}
use Rattle.world.proofs.Orders.{places_total, get_put, text_same}
use Rattle.machine.proofs.Checks.{Passing, body_there, files_split, accepted, same_again, passes_again}
use Rattle.machine.proofs.Chains.{stands_after}
use Rattle.machine.proofs.Stays.{stays_through}

-- ---- what was served

-- the reply to a query by a key of s
pub by_key : (w : World) (s k : List ℕ) (q : Query) → belongs w k s
    → keyed_reply w (map.get w.keys k) q ≡ query_reply w s q
by_key w s k q b = ap (λ h. keyed_reply w h q) b.1 ∙ ap (λ t. query_reply w t q) b.2

-- the shelf of a key stands
pub shelf_stands : (w : World) (s k : List ℕ) → IsWorld w → belongs w k s → map.contains_key w.shelves s ≡ true
shelf_stands w s k is b = ap (map.contains_key w.shelves) (sym b.2) ∙ is.keys_stand k b.0 b.1

-- what a query found once it finds after a run
found_again : (old mid : World) (s : List ℕ) (q : Query) (r : Reply) (events : List Event) (answers : List Answer)
    → map.contains_key old.shelves s ≡ true → IsOfVersion q → IsFound r → r ≡ query_reply old s q
    → Run old events answers mid → query_reply mid s q ≡ r
found_again old mid s (query.GoMod p v) r events answers stands single found is run =
    elim (view old s p (version_text v)) as
    (λ o. view old s p (version_text v) ≡ o → r ≡ gomod_reply (without_zip o)
    → gomod_reply (heading mid s p (version_text v)) ≡ r) [
      | None ↦ λ _ e. absurd (subst IsFound e found)
      | Some seen ↦ λ here e. ap (λ o. gomod_reply (without_zip o))
          (stays_through old mid s p (version_text v) events answers seen stands run here) ∙ sym e
    ] refl is
found_again old mid s (query.Zip p v) r events answers stands single found is run =
    elim (view old s p (version_text v)) as
    (λ o. view old s p (version_text v) ≡ o → r ≡ zip_reply o → zip_reply (view mid s p (version_text v)) ≡ r) [
      | None ↦ λ _ e. absurd (subst IsFound e found)
      | Some seen ↦ λ here e. ap zip_reply
          (stays_through old mid s p (version_text v) events answers seen stands run here) ∙ sym e
    ] refl is
found_again old mid s (query.Info p v) r events answers stands single found is run =
    elim (view old s p (version_text v)) as
    (λ o. view old s p (version_text v) ≡ o → r ≡ info_reply v (without_zip o)
    → info_reply v (heading mid s p (version_text v)) ≡ r) [
      | None ↦ λ _ e. absurd (subst IsFound e found)
      | Some seen ↦ λ here e. ap (λ o. info_reply v (without_zip o))
          (stays_through old mid s p (version_text v) events answers seen stands run here) ∙ sym e
    ] refl is
found_again old mid s q r events answers stands single found is run = absurd single

pub stays_served : StaysServed
stays_served old mid new s k later q r events answers (Failed fault) world own single found run own_later again = inr tt
stays_served old mid new s k later q r events answers (Replied x) world own single found run own_later again =
    inl (ap Replied (again.0 ∙ by_key mid s later q own_later
    ∙ found_again old mid s q r events answers (shelf_stands old s k world own) single found
    (run.0 ∙ by_key old s k q own) run.1))

-- ---- what was accepted

-- what was handed in is what the shelf sees
pub record IsServed (w : World) (s : List ℕ) (p : Publish) : Type 0 where
  pub passing : Passing p (Some Publishes) (gomod_of p)
  pub seen : Seen
  pub is_seen : view w s p.path (version_text p.version) ≡ Some seen
  pub is_offered : offered p ≡ Some seen.entry

same_times : (t u : Option (List ℕ)) → same_time t u ≡ true → t ≡ u
same_times None None e = refl
same_times None (Some u) e = absurd (true≢false (sym e))
same_times (Some t) None e = absurd (true≢false (sym e))
same_times (Some t) (Some u) e = ap Some (text_same t u e)

same_whole : (d e : Entry) → same_entry d e ≡ true → e ≡ d
same_whole d e same =
    let halves = and_parts (bytes_eq d.gomod e.gomod && bytes_eq d.zip e.zip) (same_time d.time e.time) same in
    let files = and_parts (bytes_eq d.gomod e.gomod) (bytes_eq d.zip e.zip) halves.0 in
    λ i. record {
      gomod = sym (text_same d.gomod e.gomod files.0) i;
      zip = sym (text_same d.zip e.zip files.1) i;
      time = sym (same_times d.time e.time halves.1) i;
    }

same_there : (d f : Entry) → standing_to (Some d) f ≡ standing.Same → f ≡ d
same_there d f =
    elim (same_entry d f) as (λ b. same_entry d f ≡ b → cond b standing.Same standing.Other ≡ standing.Same → f ≡ d) [
      | true ↦ λ same _. same_whole d f same
      | false ↦ λ _ other. absurd (cc other)
    ] refl

-- an entry that is the same as the one that is handed in
same_offer : (seen offer : Option Entry) → standing_if seen offer ≡ standing.Same
    → (e : Entry) × (seen ≡ Some e) × (offer ≡ Some e)
same_offer seen None e = absurd (cc e)
same_offer None (Some f) e = absurd (cc e)
same_offer (Some d) (Some f) e = (d, refl, ap Some (same_there d f e))

entry_is_seen : (o : Option Seen) (e : Entry) → option_map (λ (x : Seen). x.entry) o ≡ Some e
    → (seen : Seen) × (o ≡ Some seen) × (seen.entry ≡ e)
entry_is_seen None e is = cc
entry_is_seen (Some x) e is = (x, refl, cc)

-- after a publish is stored, its shelf sees it as it was handed in
served_published : (w : World) (h : Holder) (p : Publish) → decision w (Some h) p ≡ Published
    → IsServed (after_decision w (Some h) p Published) h.shelf p
served_published w h p is =
    let checks = accepted p (Some h.right) (gomod_of p) (standing_of w h.shelf p) _ is in
    let there = body_there p.body (files_split p (Some h.right) (gomod_of p) checks.passing) in
    let b = there.0 in
    let body = there.1 in
    let offer : offered p ≡ Some (entry_of p b) = ap (option_map (entry_of p)) body in
    let mine : Seen = record { shelf = h.shelf; entry = entry_of p b } in
    let after : World = stored w (place_of h.shelf p) (Some (entry_of p b)) in
    let here : view after h.shelf p.path (version_text p.version) ≡ Some mine =
    ap (λ o. option_or (seen_at o h.shelf)
    (first_on after (above (group_of after h.shelf)) p.path (version_text p.version)))
    (get_put places_total w.entries (place_of h.shelf p) (entry_of p b)) in
    record {
      passing = passes_again p h.right (gomod_of p) checks.passing;
      seen = mine;
      is_seen = subst (λ o. view (stored w (place_of h.shelf p) o) h.shelf p.path (version_text p.version) ≡ Some mine)
          (sym offer) here;
      is_offered = offer;
    }

-- a shelf sees a publish as it was handed in if the decision on it is `Same`
served_same : (w : World) (h : Holder) (p : Publish) → decision w (Some h) p ≡ Same → IsServed w h.shelf p
served_same w h p is =
    let checks = same_again p (Some h.right) (gomod_of p) (standing_of w h.shelf p) _ is in
    let entry = same_offer (entry_seen w h.shelf p.path (version_text p.version)) (offered p) checks.same in
    let seen = entry_is_seen (view w h.shelf p.path (version_text p.version)) entry.0 entry.1 in
    record {
      passing = passes_again p h.right (gomod_of p) checks.passing;
      seen = seen.0;
      is_seen = seen.1;
      is_offered = entry.2 ∙ ap Some (sym seen.2);
    }

pub served_accepted : (w : World) (h : Holder) (p : Publish) (d : Decision) → decision w (Some h) p ≡ d → IsAccepted d
    → IsServed (after_decision w (Some h) p d) h.shelf p
served_accepted w h p Published is yes_it_is = served_published w h p is
served_accepted w h p Same is yes_it_is = served_same w h p is
served_accepted w h p d is yes_it_is = absurd yes_it_is

pub still_served : (w new : World) (s : List ℕ) (p : Publish) (es : List Event) (answers : List Answer)
    → map.contains_key w.shelves s ≡ true → Run w es answers new → IsServed w s p → IsServed new s p
still_served w new s p es answers stands run served = record {
  passing = served.passing;
  seen = served.seen;
  is_seen = stays_through w new s p.path (version_text p.version) es answers served.seen stands run served.is_seen;
  is_offered = served.is_offered;
}

-- the decision on a publish that was made
pub decided_of : (x y : Decision) → reply.Decided x ≡ reply.Decided y → x ≡ y
decided_of x y e = cc

-- what was accepted by a key of s is what s sees after it
pub served_first : (w : World) (s k : List ℕ) (p : Publish) (d : Decision) → belongs w k s
    → reply.Decided d ≡ reply.Decided (decision w (map.get w.keys k) p) → IsAccepted d
    → IsServed (after w (Requested (Put k p))) s p
served_first w s k p d own given yes_it_is =
    let h = own.0 in
    let is : d ≡ decision w (map.get w.keys k) p = decided_of d _ given in
    let is_h : decision w (Some h) p ≡ d = sym (is ∙ ap (λ o. decision w o p) own.1) in
    let after_is : after w (Requested (Put k p)) ≡ after_decision w (Some h) p d =
    ap (λ o. after_decision w o p (decision w o p)) own.1 ∙ ap (λ y. after_decision w (Some h) p y) is_h in
    subst (λ y. IsServed y s p) (sym after_is)
    (subst (λ t. IsServed (after_decision w (Some h) p d) t p) own.2 (served_accepted w h p d is_h yes_it_is))

same_body : (p : Publish) (b : Body) (e : Entry) → p.body ≡ Some b → offered p ≡ Some e → e ≡ entry_of p b
same_body p b e body offer = some_same _ _ (sym offer ∙ ap (option_map (entry_of p)) body)
  where
    some_same : (x y : Entry) → Some x ≡ Some y → x ≡ y
    some_same x y e = cc

-- if s sees a publish as it was handed in, the query for its go.mod, its zip or its time gets the reply that has it
answered_with : (w : World) (s : List ℕ) (p : Publish) (b : Body) (q : Query) (r : Reply) → IsServed w s p
    → p.body ≡ Some b → asks_back p b q r → query_reply w s q ≡ r
answered_with w s p b (query.GoMod path version) r served body back =
    ap (λ x. gomod_reply (heading w s x (version_text version))) back.0
    ∙ ap (λ x. gomod_reply (heading w s p.path (version_text x))) back.1
    ∙ ap (λ o. gomod_reply (without_zip o)) served.is_seen
    ∙ ap (λ (e : Entry). reply.GoMod e.gomod) (same_body p b served.seen.entry body served.is_offered) ∙ sym back.2
answered_with w s p b (query.Zip path version) r served body back =
    ap (λ x. zip_reply (view w s x (version_text version))) back.0
    ∙ ap (λ x. zip_reply (view w s p.path (version_text x))) back.1 ∙ ap zip_reply served.is_seen
    ∙ ap (λ (e : Entry). reply.Zip e.zip) (same_body p b served.seen.entry body served.is_offered) ∙ sym back.2
answered_with w s p b (query.Info path version) r served body back =
    ap (λ x. info_reply version (heading w s x (version_text version))) back.0
    ∙ ap (λ x. info_reply version (heading w s p.path (version_text x))) back.1
    ∙ ap (λ o. info_reply version (without_zip o)) served.is_seen
    ∙ ap (λ (e : Entry). reply.Info version e.time) (same_body p b served.seen.entry body served.is_offered)
    ∙ sym back.2
answered_with w s p b q r served body back = absurd back

pub accepted_is_served : AcceptedIsServed
accepted_is_served old mid new s k later p b d q r events answers (Failed fault) world own body yes_it_is run own_later
    back again = inr tt
accepted_is_served old mid new s k later p b d q r events answers (Replied x) world own body yes_it_is run own_later
    back again =
    let stands = (stands_after old s (Requested (Put k p)) (shelf_stands old s k world own)).stands in
    let served = still_served (after old (Requested (Put k p))) mid s p events answers stands run.1
    (served_first old s k p d own run.0 yes_it_is) in
    inl (ap Replied (again.0 ∙ by_key mid s later q own_later ∙ answered_with mid s p b q r served body back))
