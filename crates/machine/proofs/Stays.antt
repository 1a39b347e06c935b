-- What a shelf sees stays as it is, whatever comes.
use Rattle.std.proofs.Common.{◌≡◌, ℕ, List, [], ◌∷◌, true, false, refl, ◌∙◌, sym, ap, subst, Option, Some, None}
use Rattle.std.specs.Prelude.{bytes_eq, ◌||◌}
use Rattle.std.specs.Option.{option_or}
use Rattle.std.specs.FinMap as map
use Rattle.std.proofs.lemmas.Bool.{true≢false, or_right}
use Rattle.modver.specs.SemanticVersion.{version_text}
use Rattle.world.specs.declared.entry.Place.{Place}
use Rattle.world.specs.declared.entry.Entry.{Entry}
use Rattle.world.specs.declared.entry.Seen.{Seen}
use Rattle.world.specs.declared.entry.Holder.{Holder}
use Rattle.world.specs.declared.entry.Right.{Right}
use Rattle.machine.specs.declared.request.Publish.{Publish}
use Rattle.machine.specs.declared.request.Request.TheVariants.{Unreadable, Get, Put}
use Rattle.machine.specs.declared.request.Event.{Event}
use Rattle.machine.specs.declared.request.Event.TheVariants.{Requested, TeamAdd, GroupAdd, KeyAdd, KeyRevoke}
use Rattle.machine.specs.declared.request.Event.TheVariants.{KeysRevoke}
use Rattle.machine.specs.declared.reply.Decision.{Decision}
use Rattle.machine.specs.declared.reply.Decision.TheVariants.{Published}
use Rattle.world.specs.declared.registry.RegistryReply.{RegistryReply}
use Rattle.world.specs.declared.registry.RegistryReply.TheVariants.{Done}
use Rattle.machine.specs.declared.reply.Answer.{Answer}
use Rattle.machine.specs.declared.reply.Answer.TheVariants.{Replied, Failed}
use Rattle.world.specs.World.{World, chain, group_of, above, place, seen_at, first_on, view, with_entry}
use Rattle.machine.specs.Machine.{decision, after_decision, stored, offered, place_of, after, Run}
use Rattle.world.specs.Registry.{team_added, group_added, key_added, key_revoked, after_team_add, after_group_add}
use Rattle.world.specs.Registry.{after_key_add, after_key_revoke, keys_revoked, after_keys_revoke}
use Rattle.machine.specs.Isolation.{is_among, sees}
use Rattle.world.proofs.Orders.{places_total, places_exact, get_elsewhere, text_self, text_same, text_apart}
use Rattle.machine.proofs.Views.{sees_itself, sees_common, only_common, view_same}
use Rattle.machine.proofs.Chains.{stands_after}
use Rattle.machine.proofs.Checks.{unseen}

-- ---- nothing is seen on a list of shelves that have no entry

nothing_at : (o rest : Option Seen) → option_or o rest ≡ None → (o ≡ None) × (rest ≡ None)
nothing_at None rest e = (refl, e)
nothing_at (Some x) rest e = cc

no_entry : (o : Option Entry) (s : List ℕ) → seen_at o s ≡ None → o ≡ None
no_entry None s e = refl
no_entry (Some x) s e = cc

nothing_on : (w : World) (ss : List (List ℕ)) (p v : List ℕ) → first_on w ss p v ≡ None → (t : List ℕ)
    → is_among ss t ≡ true → map.get w.entries (place t p v) ≡ None
nothing_on w [] p v none t in_it = absurd (true≢false (sym in_it))
nothing_on w (s ∷ ss) p v none t in_it =
    let both = nothing_at _ (first_on w ss p v) none in
    elim (bytes_eq t s) as (λ b. bytes_eq t s ≡ b → (b || is_among ss t) ≡ true
    → map.get w.entries (place t p v) ≡ None) [
      | true ↦ λ here _. subst (λ u. map.get w.entries (place u p v) ≡ None) (sym (text_same t s here))
          (no_entry (map.get w.entries (place s p v)) s both.0)
      | false ↦ λ _ later. nothing_on w ss p v both.1 t later
    ] refl in_it

seen_on_none : (w : World) (ss : List (List ℕ)) (p v : List ℕ)
    → ((t : List ℕ) → is_among ss t ≡ true → map.get w.entries (place t p v) ≡ None) → first_on w ss p v ≡ None
seen_on_none w [] p v none = refl
seen_on_none w (s ∷ ss) p v none =
    ap (λ o. option_or (seen_at o s) (first_on w ss p v)) (none s (ap (λ b. b || is_among ss s) (text_self s)))
    ∙ seen_on_none w ss p v (λ t h. none t (or_right (bytes_eq t s) _ h))

-- ---- an entry that is put where its shelf sees nothing

-- t sees each of these shelves that follows t
Nested : World → List ℕ → List (List ℕ) → Type 0
Nested w t [] = Unit {0}
Nested w t (u ∷ us) = ((u ≡ t) → (x : List ℕ) → is_among us x ≡ true → sees w t x ≡ true) × Nested w t us

nested_above : (w : World) (t : List ℕ) (o : Option (List ℕ)) → Nested w t (above o)
unfolding Nested
nested_above w t None = ((λ _ x h. absurd (true≢false (sym h))), tt)
nested_above w t (Some g) = (
  (λ _ x h. subst (λ y. sees w t y ≡ true) (sym (only_common x h)) (sees_common w t)),
  ((λ _ x h. absurd (true≢false (sym h))), tt),
)

nested_chain : (w : World) (t s : List ℕ) → Nested w t (chain w s)
unfolding Nested
nested_chain w t s = (
  (λ same x h. subst (λ y. sees w y x ≡ true) same (or_right (bytes_eq x s) _ h)),
  nested_above w t (group_of w s),
)

-- if t sees each of these shelves that follows t, and saw nothing of a version, an entry of it put on t leaves what
-- they have
-- first of it
stays_on : (w : World) (ss : List (List ℕ)) (t p v : List ℕ) (e : Entry) (seen : Seen) → Nested w t ss
    → view w t p v ≡ None
    → first_on w ss p v ≡ Some seen → first_on (with_entry w (place t p v) e) ss p v ≡ Some seen
unfolding Nested
stays_on w [] t p v e seen nested none found = found
stays_on w (u ∷ us) t p v e seen nested none found =
    elim (bytes_eq u t) as (λ b. bytes_eq u t ≡ b → first_on (with_entry w (place t p v) e) (u ∷ us) p v ≡ Some seen) [
      | true ↦ λ same.
          let ut = text_same u t same in
          let nothing_here : map.get w.entries (place u p v) ≡ None =
          nothing_on w (chain w t) p v none u (subst (λ x. sees w t x ≡ true) (sym ut) (sees_itself w t)) in
          let nothing_after : first_on w us p v ≡ None =
          seen_on_none w us p v (λ x h. nothing_on w (chain w t) p v none x (nested.0 ut x h)) in
          let is_none : first_on w (u ∷ us) p v ≡ None =
          ap (λ o. option_or (seen_at o u) (first_on w us p v)) nothing_here ∙ nothing_after in
          let never : None ≡ Some seen = sym is_none ∙ found in
          cc
      | false ↦ λ other.
          let unchanged : map.get (map.insert w.entries (place t p v) e) (place u p v)
          ≡ map.get w.entries (place u p v) =
          get_elsewhere places_total places_exact w.entries (place t p v) e (place u p v)
          (λ i. text_apart u t other (ap (λ (q : Place). q.shelf) i)) in
          ap (λ o. option_or (seen_at o u) (first_on (with_entry w (place t p v) e) us p v)) unchanged
          ∙ elim (map.get w.entries (place u p v))
          as (λ o. option_or (seen_at o u) (first_on w us p v) ≡ Some seen
          → option_or (seen_at o u) (first_on (with_entry w (place t p v) e) us p v) ≡ Some seen) [
            | None ↦ λ rest. stays_on w us t p v e seen nested.1 none rest
            | Some x ↦ λ here. here
          ] found
    ] refl

-- an entry of another version changes nothing
elsewhere_on : (w : World) (ss : List (List ℕ)) (q : Place) (p v : List ℕ) (e : Entry)
    → ((s : List ℕ) → place s p v ≡ q → ⊥)
    → first_on (with_entry w q e) ss p v ≡ first_on w ss p v
elsewhere_on w [] q p v e apart = refl
elsewhere_on w (s ∷ ss) q p v e apart =
    ap (λ o. option_or (seen_at o s) (first_on (with_entry w q e) ss p v))
    (get_elsewhere places_total places_exact w.entries q e (place s p v) (apart s))
    ∙ ap (λ o. option_or (seen_at (map.get w.entries (place s p v)) s) o) (elsewhere_on w ss q p v e apart)

-- what s sees of a version stays so when a shelf gets an entry of a version of which it saw nothing
stays_with : (w : World) (s t p v p2 v2 : List ℕ) (e : Entry) (seen : Seen) → view w t p2 v2 ≡ None
    → view w s p v ≡ Some seen → view (with_entry w (place t p2 v2) e) s p v ≡ Some seen
stays_with w s t p v p2 v2 e seen none found =
    let after : World = with_entry w (place t p2 v2) e in
    elim (bytes_eq p2 p) as (λ b. bytes_eq p2 p ≡ b → view after s p v ≡ Some seen) [
      | false ↦ λ other. elsewhere_on w (chain w s) (place t p2 v2) p v e
          (λ u i. text_apart p2 p other (sym (ap (λ (q : Place). q.path) i))) ∙ found
      | true ↦ λ same_path. elim (bytes_eq v2 v) as (λ b. bytes_eq v2 v ≡ b → view after s p v ≡ Some seen) [
        | false ↦ λ other. elsewhere_on w (chain w s) (place t p2 v2) p v e
            (λ u i. text_apart v2 v other (sym (ap (λ (q : Place). q.version) i))) ∙ found
        | true ↦ λ same_version.
            let pp = text_same p2 p same_path in
            let vv = text_same v2 v same_version in
            let none_here : view w t p v ≡ None =
            subst (λ x. view w t x v ≡ None) pp (subst (λ x. view w t p2 x ≡ None) vv none) in
            subst (λ x. view (with_entry w (place t x v2) e) s p v ≡ Some seen) (sym pp)
            (subst (λ x. view (with_entry w (place t p x) e) s p v ≡ Some seen) (sym vv)
            (stays_on w (chain w s) t p v e seen (nested_chain w t s) none_here found))
      ] refl
    ] refl

-- ---- each event

stays_stored : (w : World) (s t p v : List ℕ) (a : Publish) (o : Option Entry) (seen : Seen)
    → view w t a.path (version_text a.version) ≡ None → view w s p v ≡ Some seen
    → view (stored w (place_of t a) o) s p v ≡ Some seen
stays_stored w s t p v a None seen none found = found
stays_stored w s t p v a (Some e) seen none found =
    stays_with w s t p v a.path (version_text a.version) e seen none found

stays_decided : (w : World) (s p v : List ℕ) (h : Holder) (a : Publish) (d : Decision) (seen : Seen)
    → decision w (Some h) a ≡ d → view w s p v ≡ Some seen → view (after_decision w (Some h) a d) s p v ≡ Some seen
stays_decided w s p v h a Published seen is found =
    stays_stored w s h.shelf p v a (offered a) seen (unseen w h a is) found
stays_decided w s p v h a d seen is found = found

stays_put : (w : World) (s p v : List ℕ) (h : Option Holder) (a : Publish) (seen : Seen) → view w s p v ≡ Some seen
    → view (after_decision w h a (decision w h a)) s p v ≡ Some seen
stays_put w s p v None a seen found = found
stays_put w s p v (Some h) a seen found = stays_decided w s p v h a _ seen refl found

-- what makes no entry changes no view of a shelf whose chain stays
stays_registry : (w x : World) (s p v : List ℕ) (seen : Seen) → w.entries ≡ x.entries → chain x s ≡ chain w s
    → view w s p v ≡ Some seen → view x s p v ≡ Some seen
stays_registry w x s p v seen same chains found =
    view_same x w s p v chains (λ t h a b. ap (λ m. map.get m (place t a b)) (sym same)) ∙ found

entries_team : (w : World) (t : List ℕ) (group : Option (List ℕ)) (r : RegistryReply)
    → w.entries ≡ (after_team_add w t group r).entries
entries_team w t group Done = refl
entries_team w t group r = refl

entries_group : (w : World) (g : List ℕ) (r : RegistryReply) → w.entries ≡ (after_group_add w g r).entries
entries_group w g Done = refl
entries_group w g r = refl

entries_key : (w : World) (t k : List ℕ) (right : Right) (r : RegistryReply)
    → w.entries ≡ (after_key_add w t k right r).entries
entries_key w t k right Done = refl
entries_key w t k right r = refl

entries_revoke : (w : World) (k : List ℕ) (r : RegistryReply) → w.entries ≡ (after_key_revoke w k r).entries
entries_revoke w k Done = refl
entries_revoke w k r = refl

entries_revoke_all : (w : World) (t : List ℕ) (r : RegistryReply) → w.entries ≡ (after_keys_revoke w t r).entries
entries_revoke_all w t Done = refl
entries_revoke_all w t r = refl

-- what a shelf sees of a version it sees after any event
pub stays_seen : (w : World) (s p v : List ℕ) (e : Event) (seen : Seen) → map.contains_key w.shelves s ≡ true
    → view w s p v ≡ Some seen → view (after w e) s p v ≡ Some seen
stays_seen w s p v (Requested Unreadable) seen stands found = found
stays_seen w s p v (Requested (Get k q)) seen stands found = found
stays_seen w s p v (Requested (Put k a)) seen stands found = stays_put w s p v (map.get w.keys k) a seen found
stays_seen w s p v (TeamAdd t group) seen stands found =
    stays_registry w (after w (TeamAdd t group)) s p v seen (entries_team w t group (team_added w t group))
    (stands_after w s (TeamAdd t group) stands).chains found
stays_seen w s p v (GroupAdd g) seen stands found =
    stays_registry w (after w (GroupAdd g)) s p v seen (entries_group w g (group_added w g))
    (stands_after w s (GroupAdd g) stands).chains found
stays_seen w s p v (KeyAdd t k right) seen stands found =
    stays_registry w (after w (KeyAdd t k right)) s p v seen (entries_key w t k right (key_added w t k))
    (stands_after w s (KeyAdd t k right) stands).chains found
stays_seen w s p v (KeyRevoke k) seen stands found =
    stays_registry w (after w (KeyRevoke k)) s p v seen (entries_revoke w k (key_revoked w k))
    (stands_after w s (KeyRevoke k) stands).chains found
stays_seen w s p v (KeysRevoke t) seen stands found =
    stays_registry w (after w (KeysRevoke t)) s p v seen (entries_revoke_all w t (keys_revoked w t))
    (stands_after w s (KeysRevoke t) stands).chains found

-- ---- a run

pub stays_through : (w new : World) (s p v : List ℕ) (es : List Event) (answers : List Answer) (seen : Seen)
    → map.contains_key w.shelves s ≡ true → Run w es answers new → view w s p v ≡ Some seen → view new s p v ≡ Some seen
stays_through w new s p v [] [] seen stands run found = subst (λ x. view x s p v ≡ Some seen) (sym run) found
stays_through w new s p v [] (a ∷ answers) seen stands run found = absurd run
stays_through w new s p v (e ∷ es) [] seen stands run found = absurd run
stays_through w new s p v (e ∷ es) (Replied r ∷ answers) seen stands run found =
    stays_through (after w e) new s p v es answers seen (stands_after w s e stands).stands run.1
    (stays_seen w s p v e seen stands found)
stays_through w new s p v (e ∷ es) (Failed fault ∷ answers) seen stands run found =
    stays_through w new s p v es answers seen stands run found
