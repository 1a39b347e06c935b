-- Without groups the machine is the one that knows none.
use Rattle.std.proofs.Common.{◌≡◌, ℕ, List, [], ◌∷◌, Bool, true, false, cond, refl, ◌∙◌, sym, ap, subst, Option, Some}
use Rattle.std.proofs.Common.{None}
use Rattle.std.specs.Prelude.{not, ◌&&◌, ◌||◌, if◌then◌else◌, bytes_eq, option_map, map as map_list}
use Rattle.std.specs.Option.{option_or}
use Rattle.std.specs.Ordering.{eq_by_cmp}
use Rattle.std.specs.FinMap as map
use Rattle.std.specs.FinSet as set
use Rattle.modver.specs.SemanticVersion.{SemanticVersion, version_text}
use Rattle.world.specs.declared.entry.Entry.{Entry}
use Rattle.world.specs.declared.entry.Holder.{Holder}
use Rattle.world.specs.declared.entry.Place.{Place}
use Rattle.world.specs.declared.entry.Right.{Right}
use Rattle.world.specs.declared.registry.RegistryReply.{RegistryReply}
use Rattle.world.specs.declared.registry.RegistryReply.TheVariants.{Done, Name, Taken, NoTeam}
use Rattle.world.specs.Groups.{HasNoGroup}
use Rattle.world.specs.FinMaps.{with_texts}
use Rattle.world.specs.Latest.{module_of, highest, highest_left}
use Rattle.world.specs.Latest as latest
use Rattle.world.specs.Lines.{in_order}
use Rattle.world.specs.Registry.{is_top}
use Rattle.world.specs.Registry as registry
use Rattle.world.specs.Versions.{named, by_precedence}
use Rattle.world.specs.Versions as versions
use Rattle.world.specs.Visible.{versions_among, paths_among, versions_on, paths_on}
use Rattle.world.specs.Visible as visible
use Rattle.world.specs.World.{World, IsWorld, common, is_team_name, is_key, place, text_cmp, chain, seen_at, first_on}
use Rattle.world.specs.World.{without_zip, with_shelf}
use Rattle.world.specs.World as world
use Rattle.world.proofs.Ties.{or_none}
use Rattle.world.proofs.Groups.{sees_itself_and_common}
use Rattle.world.proofs.MoreTexts.{none_put, has_keys}
use Rattle.world.proofs.Orders.{texts_total}
use Rattle.world.proofs.Sound.{has_put}
use Rattle.machine.specs.declared.request.Request.TheVariants.{Unreadable, Get, Put}
use Rattle.machine.specs.declared.request.Publish.{Publish}
use Rattle.machine.specs.declared.request.Query.{Query}
use Rattle.machine.specs.declared.request.Query.TheVariants as query
use Rattle.machine.specs.declared.reply.Decision.{Decision}
use Rattle.machine.specs.declared.reply.Decision.TheVariants.{Published}
use Rattle.machine.specs.declared.reply.Reply.TheVariants as reply
use Rattle.machine.specs.Machine.{decided, offered, gomod_of, place_of, standing_if, gomod_reply, zip_reply, info_reply}
use Rattle.machine.specs.Machine.{list_reply}
use Rattle.machine.specs.Machine as machine
use Rattle.machine.specs.Ungrouped as alone
use Rattle.machine.specs.Ungrouped.{Ungrouped, Event, Requested, TeamAdd, KeyAdd, KeyRevoke, KeysRevoke, event_in, IsOf}
use Rattle.machine.specs.Ungrouped.{EachIsOfOne, RepliesWithoutGroups, ListsWithoutGroups}
use Rattle.machine.proofs.Sound.{sound}

-- the world as one without groups, with these names of its shelves
abbrev named_so : World → set.FinSet text_cmp → Ungrouped
named_so w names = record { keys = w.keys; shelves = names; entries = w.entries }

-- ---- what a shelf sees

module _ (w : World) (is : IsWorld w) (none : HasNoGroup w) (names : set.FinSet text_cmp) where
  abbrev u : Ungrouped
  u = named_so w names

  pair : (s : List ℕ) → chain w s ≡ s ∷ common ∷ []
  pair s = sees_itself_and_common w s is none

  same_view : (s p v : List ℕ) → world.view w s p v ≡ alone.view u s p v
  same_view s p v =
      ap (λ ss. first_on w ss p v) (pair s)
      ∙ ap (option_or (seen_at (map.get w.entries (place s p v)) s))
      (or_none (seen_at (map.get w.entries (place common p v)) common))

  same_heading : (s p v : List ℕ) → world.heading w s p v ≡ alone.heading u s p v
  same_heading s p v = ap without_zip (same_view s p v)

  same_versions : (s p : List ℕ) → versions.versions_of w s p ≡ alone.versions_of u s p
  same_versions s p =
      ap (λ ts. in_order (by_precedence (named (in_order ts))))
      (ap (λ ss. versions_on w ss p) (pair s)
      ∙ ap (set.union (versions_among s p (map.entries w.entries)))
      (none_put (versions_among common p (map.entries w.entries))))

  same_left : (s p : List ℕ) (o : Option SemanticVersion) → latest.latest_by w s p o ≡ alone.latest_by u s p o
  same_left s p None = refl
  same_left s p (Some top) =
      ap (λ m. highest_left m (versions.versions_of w s p)) (ap module_of (same_heading s p (version_text top)))
      ∙ ap (highest_left (module_of (alone.heading u s p (version_text top)))) (same_versions s p)

  same_latest : (s p : List ℕ) → latest.latest_of w s p ≡ alone.latest_of u s p
  same_latest s p = ap (λ vs. latest.latest_by w s p (highest vs)) (same_versions s p)
      ∙ same_left s p (highest (alone.versions_of u s p))

  same_paths : (s : List ℕ) → visible.paths_seen w s ≡ alone.paths_seen u s
  same_paths s = ap (paths_on w) (pair s)
      ∙ ap (set.union (paths_among s (map.entries w.entries))) (none_put (paths_among common (map.entries w.entries)))

  -- ---- requests

  same_info : (s p : List ℕ) (o : Option SemanticVersion) → machine.latest_reply w s p o ≡ alone.latest_reply u s p o
  same_info s p None = refl
  same_info s p (Some v) = ap (info_reply v) (same_heading s p (version_text v))

  same_query : (s : List ℕ) (q : Query) → machine.query_reply w s q ≡ alone.query_reply u s q
  same_query s (query.GoMod p v) = ap gomod_reply (same_heading s p (version_text v))
  same_query s (query.Zip p v) = ap zip_reply (same_view s p (version_text v))
  same_query s (query.Info p v) = ap (info_reply v) (same_heading s p (version_text v))
  same_query s (query.List p) = ap list_reply (same_versions s p)
  same_query s (query.Latest p) = ap (machine.latest_reply w s p) (same_latest s p)
      ∙ same_info s p (alone.latest_of u s p)
  same_query s query.Modules = ap (λ ps. reply.Paths ps) (same_paths s)

  same_keyed : (o : Option Holder) (q : Query) → machine.keyed_reply w o q ≡ alone.keyed_reply u o q
  same_keyed None q = refl
  same_keyed (Some h) q = same_query h.shelf q

  same_standing : (s : List ℕ) (p : Publish) → machine.standing_of w s p ≡ alone.standing_of u s p
  same_standing s p = ap (λ o. standing_if (option_map (λ seen. seen.entry) o) (offered p))
      (same_view s p.path (version_text p.version))

  same_decision : (o : Option Holder) (p : Publish) → machine.decision w o p ≡ alone.decision u o p
  same_decision None p = refl
  same_decision (Some h) p =
      ap (λ there. decided p (Some h.right) (gomod_of p) there (world.count w h.shelf p.path)) (same_standing h.shelf p)

  -- ---- what stands after

  module _ (are : (s : List ℕ) → set.contains names s ≡ map.contains_key w.shelves s) where
    is_of : IsOf u w
    is_of = record { keys = refl; names = are; entries = refl; none = none }

    of_stored : (q : Place) (o : Option Entry) → IsOf (alone.stored u q o) (machine.stored w q o)
    of_stored q None = is_of
    of_stored q (Some e) = record { keys = refl; names = are; entries = refl; none = none }

    of_decided : (o : Option Holder) (p : Publish) (d : Decision)
        → IsOf (alone.after_decision u o p d) (machine.after_decision w o p d)
    of_decided (Some h) p Published = of_stored (place_of h.shelf p) (offered p)
    of_decided o p d = is_of

    -- a team without a group is no group
    no_group_by : (b same : Bool) (o : Option (Option (List ℕ))) → (is_top o && not same) ≡ false
        → (is_top (cond b (Some (Some common)) o) && not same) ≡ false
    no_group_by true same o e = refl
    no_group_by false same o e = e

    none_put_in : (t : List ℕ) → HasNoGroup (with_shelf w t (Some common))
    none_put_in t g =
        ap (λ o. is_top o && not (bytes_eq g common)) (map.get-insert texts_total w.shelves t (Some common) g)
        ∙ no_group_by (eq_by_cmp text_cmp g t) (bytes_eq g common) (map.get w.shelves g) (none g)

    names_put : (t s : List ℕ)
        → set.contains (set.insert names t) s ≡ map.contains_key (with_shelf w t (Some common)).shelves s
    names_put t s = set.contains-insert texts_total names t s ∙ ap (λ b. eq_by_cmp text_cmp s t || b) (are s)
        ∙ sym (has_put w t (Some common) s)

    of_team : (t : List ℕ) (r : RegistryReply) → IsOf (alone.after_team_add u t r) (registry.after_team_add w t None r)
    of_team t Done = record { keys = refl; names = names_put t; entries = refl; none = none_put_in t }
    of_team t r = is_of

    of_key : (t k : List ℕ) (right : Right) (r : RegistryReply)
        → IsOf (alone.after_key_add u t k right r) (registry.after_key_add w t k right r)
    of_key t k right Done = record { keys = refl; names = are; entries = refl; none = none }
    of_key t k right r = is_of

    of_revoke : (k : List ℕ) (r : RegistryReply) → IsOf (alone.after_key_revoke u k r) (registry.after_key_revoke w k r)
    of_revoke k Done = record { keys = refl; names = are; entries = refl; none = none }
    of_revoke k r = is_of

    of_revoke_all : (t : List ℕ) (r : RegistryReply)
        → IsOf (alone.after_keys_revoke u t r) (registry.after_keys_revoke w t r)
    of_revoke_all t Done = record { keys = refl; names = are; entries = refl; none = none }
    of_revoke_all t r = is_of

    same_team : (t : List ℕ) → registry.team_added w t None ≡ alone.team_added u t
    same_team t = ap (λ b. if not (is_team_name t) then Name else if b then Taken else Done) (sym (are t))

    same_key : (t k : List ℕ) → registry.key_added w t k ≡ alone.key_added u t k
    same_key t k = ap (λ b. if not (is_key k) then Name else if not b then NoTeam else if map.contains_key w.keys k then
        Taken else Done) (sym (are t))

    same_revoke_all : (t : List ℕ) → registry.keys_revoked w t ≡ alone.keys_revoked u t
    same_revoke_all t = ap (λ b. if b then Done else NoTeam) (sym (are t))

    -- ---- each event

    abbrev AsAlone : Event → Type 0
    AsAlone e = (machine.reply_to w (event_in e) ≡ alone.reply_to u e)
        × IsOf (alone.after u e) (machine.after w (event_in e))

    -- to each event the machine replies as the one without groups, and leads to what that one leads to
    as_alone : (e : Event) → AsAlone e
    as_alone (Requested Unreadable) = (refl, is_of)
    as_alone (Requested (Get k q)) = (same_keyed (map.get w.keys k) q, is_of)
    as_alone (Requested (Put k p)) =
        let same = same_decision (map.get w.keys k) p in (
          ap (λ (d : Decision). reply.Decided d) same,
          subst (λ d. IsOf (alone.after_decision u (map.get w.keys k) p (alone.decision u (map.get w.keys k) p))
              (machine.after_decision w (map.get w.keys k) p d)) (sym same)
              (of_decided (map.get w.keys k) p (alone.decision u (map.get w.keys k) p)),
        )
    as_alone (TeamAdd t) =
        let same = same_team t in (
          ap (λ (r : RegistryReply). reply.Registry r) same,
          subst (λ r. IsOf (alone.after_team_add u t (alone.team_added u t)) (registry.after_team_add w t None r))
              (sym same) (of_team t (alone.team_added u t)),
        )
    as_alone (KeyAdd t k right) =
        let same = same_key t k in (
          ap (λ (r : RegistryReply). reply.Registry r) same,
          subst (λ r. IsOf (alone.after_key_add u t k right (alone.key_added u t k))
              (registry.after_key_add w t k right r)) (sym same) (of_key t k right (alone.key_added u t k)),
        )
    as_alone (KeyRevoke k) = (refl, of_revoke k (registry.key_revoked w k))
    as_alone (KeysRevoke t) =
        let same = same_revoke_all t in (
          ap (λ (r : RegistryReply). reply.Registry r) same,
          subst (λ r. IsOf (alone.after_keys_revoke u t (alone.keys_revoked u t)) (registry.after_keys_revoke w t r))
              (sym same) (of_revoke_all t (alone.keys_revoked u t)),
        )

-- ---- the laws

pub each_is_of_one : EachIsOfOne
each_is_of_one w none = (
  named_so w (with_texts set.empty (map.keys w.shelves)),
  record { keys = refl; names = λ s. has_keys w.shelves s; entries = refl; none = none },
)

same_record : (u : Ungrouped) (w : World) → u.keys ≡ w.keys → u.entries ≡ w.entries → u ≡ named_so w u.shelves
same_record u w keys entries =
    ap (λ ks. record { keys = ks; shelves = u.shelves; entries = u.entries }) keys
    ∙ ap (λ es. record { keys = w.keys; shelves = u.shelves; entries = es }) entries

pub replies_without_groups : RepliesWithoutGroups
replies_without_groups u w e is of =
    subst (λ x. (machine.reply_to w (event_in e) ≡ alone.reply_to x e)
    × IsOf (alone.after x e) (machine.after w (event_in e)))
    (sym (same_record u w of.keys of.entries)) (as_alone w is of.none u.shelves of.names e)

pub lists_without_groups : ListsWithoutGroups
lists_without_groups u w [] is of = (refl, of)
lists_without_groups u w (e ∷ es) is of =
    let first = replies_without_groups u w e is of in
    let rest = lists_without_groups (alone.after u e) (machine.after w (event_in e)) es (sound w (event_in e) is)
    first.1 in (
      ap (λ r. r ∷ machine.replies (machine.after w (event_in e)) (map_list event_in es)) first.0
          ∙ ap (λ rs. alone.reply_to u e ∷ rs) rest.0,
      rest.1,
    )
