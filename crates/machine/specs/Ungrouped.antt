-- The machine that knows no groups: of each version a shelf sees its own entry if there is one, otherwise that of
-- common. Each definition has the name of the one for worlds with groups, in Machine or in the crate `world`, and its
-- meaning.
use Rattle.std.specs.Prelude.{ℕ, ◌≡◌, List, [], ◌∷◌, ◌&&◌, not, if◌then◌else◌, Option, Some, None, bytes_eq, option_map}
use Rattle.std.specs.Prelude.{map as map_list}
use Rattle.std.specs.Option.{option_or}
use Rattle.std.specs.FinMap as map
use Rattle.std.specs.FinSet as set
use Rattle.modver.specs.SemanticVersion.{SemanticVersion, version_text}
use Rattle.world.specs.declared.entry.Place.{Place}
use Rattle.world.specs.declared.entry.Entry.{Entry}
use Rattle.world.specs.declared.entry.Heading.{Heading}
use Rattle.world.specs.declared.entry.Holder.{Holder}
use Rattle.world.specs.declared.entry.Right.{Right}
use Rattle.world.specs.declared.entry.Seen.{Seen}
use Rattle.world.specs.declared.registry.RegistryReply.{RegistryReply}
use Rattle.world.specs.declared.registry.RegistryReply.TheVariants.{Done, Name, Taken, NoTeam, NoKey}
use Rattle.world.specs.declared.standing.Standing.{Standing}
use Rattle.world.specs.declared.standing.Standing.TheVariants as standing
use Rattle.world.specs.Groups.{HasNoGroup}
use Rattle.world.specs.Latest.{module_of, highest, highest_left}
use Rattle.world.specs.Lines.{in_order}
use Rattle.world.specs.Versions.{named, by_precedence}
use Rattle.world.specs.Visible.{versions_among, paths_among}
use Rattle.world.specs.World.{World, IsWorld, common, is_team_name, is_key, place, place_cmp, text_cmp, seen_at}
use Rattle.world.specs.World.{is_held_on, without_zip}
use Rattle.machine.specs.declared.request.Request.{Request}
use Rattle.machine.specs.declared.request.Request.TheVariants.{Unreadable, Get, Put}
use Rattle.machine.specs.declared.request.Event.{Event as WholeEvent}
use Rattle.machine.specs.declared.request.Event.TheVariants as whole
use Rattle.machine.specs.declared.request.Publish.{Publish}
use Rattle.machine.specs.declared.request.Query.{Query}
use Rattle.machine.specs.declared.request.Query.TheVariants as query
use Rattle.machine.specs.declared.reply.Decision.{Decision}
use Rattle.machine.specs.declared.reply.Decision.TheVariants.{Published}
use Rattle.machine.specs.declared.reply.Reply.{Reply}
use Rattle.machine.specs.declared.reply.Reply.TheVariants as reply
use Rattle.machine.specs.Machine.{decided, offered, gomod_of, place_of, standing_if, gomod_reply, zip_reply, info_reply}
use Rattle.machine.specs.Machine.{list_reply}
use Rattle.machine.specs.Machine as machine

-- A world without groups: its keys with their shelf and right, the names of its shelves, and its entries.
pub record Ungrouped : Type 0 where
  pub keys : map.FinMap text_cmp Holder
  pub shelves : set.FinSet text_cmp
  pub entries : map.FinMap place_cmp Entry

-- ---- what a shelf sees

abbrev pub view : Ungrouped → List ℕ → List ℕ → List ℕ → Option Seen
view u s p v = option_or (seen_at (map.get u.entries (place s p v)) s)
    (seen_at (map.get u.entries (place common p v)) common)

abbrev pub heading : Ungrouped → List ℕ → List ℕ → List ℕ → Option Heading
heading u s p v = without_zip (view u s p v)

-- the versions of a path that a shelf sees, in ascending precedence
abbrev pub versions_of : Ungrouped → List ℕ → List ℕ → List SemanticVersion
versions_of u s p = in_order (by_precedence
    (named (in_order (set.union (versions_among s p (map.entries u.entries))
    (versions_among common p (map.entries u.entries))))))

-- the highest version that the go.mod of this version, the highest, does not retract
abbrev pub latest_by : Ungrouped → List ℕ → List ℕ → Option SemanticVersion → Option SemanticVersion
latest_by u s p None = None
latest_by u s p (Some top) = highest_left (module_of (heading u s p (version_text top))) (versions_of u s p)

abbrev pub latest_of : Ungrouped → List ℕ → List ℕ → Option SemanticVersion
latest_of u s p = latest_by u s p (highest (versions_of u s p))

abbrev pub paths_seen : Ungrouped → List ℕ → set.FinSet text_cmp
paths_seen u s = set.union (paths_among s (map.entries u.entries)) (paths_among common (map.entries u.entries))

-- ---- a publish

-- how many versions of a path stand on one shelf
abbrev pub count : Ungrouped → List ℕ → List ℕ → ℕ
count u s p = map.len (map.retain_keys u.entries (λ q. bytes_eq q.shelf s && bytes_eq q.path p))

-- how a publish compares with what a shelf sees of its path and version
abbrev pub standing_of : Ungrouped → List ℕ → Publish → Standing
standing_of u s p = standing_if (option_map (λ seen. seen.entry) (view u s p.path (version_text p.version))) (offered p)

abbrev pub decision : Ungrouped → Option Holder → Publish → Decision
decision u None p = decided p None None standing.Absent 0
decision u (Some h) p = decided p (Some h.right) (gomod_of p) (standing_of u h.shelf p) (count u h.shelf p.path)

abbrev pub stored : Ungrouped → Place → Option Entry → Ungrouped
stored u q None = u
stored u q (Some e) = record { keys = u.keys; shelves = u.shelves; entries = map.insert u.entries q e }

abbrev pub after_decision : Ungrouped → Option Holder → Publish → Decision → Ungrouped
after_decision u (Some h) p Published = stored u (place_of h.shelf p) (offered p)
after_decision u h p d = u

-- ---- a query

abbrev pub latest_reply : Ungrouped → List ℕ → List ℕ → Option SemanticVersion → Reply
latest_reply u s p None = reply.NotFound
latest_reply u s p (Some v) = info_reply v (heading u s p (version_text v))

abbrev pub query_reply : Ungrouped → List ℕ → Query → Reply
query_reply u s (query.GoMod p v) = gomod_reply (heading u s p (version_text v))
query_reply u s (query.Zip p v) = zip_reply (view u s p (version_text v))
query_reply u s (query.Info p v) = info_reply v (heading u s p (version_text v))
query_reply u s (query.List p) = list_reply (versions_of u s p)
query_reply u s (query.Latest p) = latest_reply u s p (latest_of u s p)
query_reply u s query.Modules = reply.Paths (paths_seen u s)

abbrev pub keyed_reply : Ungrouped → Option Holder → Query → Reply
keyed_reply u None q = reply.NotFound
keyed_reply u (Some h) q = query_reply u h.shelf q

-- ---- the registry

abbrev pub team_added : Ungrouped → List ℕ → RegistryReply
team_added u t = if not (is_team_name t) then Name else if set.contains u.shelves t then Taken else Done

abbrev pub key_added : Ungrouped → List ℕ → List ℕ → RegistryReply
key_added u s k =
    if not (is_key k) then Name
    else if not (set.contains u.shelves s) then NoTeam
    else if map.contains_key u.keys k then Taken
    else Done

abbrev pub key_revoked : Ungrouped → List ℕ → RegistryReply
key_revoked u k = if map.contains_key u.keys k then Done else NoKey

abbrev pub keys_revoked : Ungrouped → List ℕ → RegistryReply
keys_revoked u s = if set.contains u.shelves s then Done else NoTeam

abbrev pub after_team_add : Ungrouped → List ℕ → RegistryReply → Ungrouped
after_team_add u t Done = record { keys = u.keys; shelves = set.insert u.shelves t; entries = u.entries }
after_team_add u t r = u

abbrev pub after_key_add : Ungrouped → List ℕ → List ℕ → Right → RegistryReply → Ungrouped
after_key_add u s k right Done =
    record {
      keys = map.insert u.keys k (record { shelf = s; right = right });
      shelves = u.shelves;
      entries =
          u.entries;
    }
after_key_add u s k right r = u

abbrev pub after_key_revoke : Ungrouped → List ℕ → RegistryReply → Ungrouped
after_key_revoke u k Done = record { keys = map.remove u.keys k; shelves = u.shelves; entries = u.entries }
after_key_revoke u k r = u

abbrev pub after_keys_revoke : Ungrouped → List ℕ → RegistryReply → Ungrouped
after_keys_revoke u s Done = record {
  keys = map.retain_keys u.keys (λ k. not (is_held_on s (map.get u.keys k)));
  shelves = u.shelves;
  entries = u.entries;
}
after_keys_revoke u s r = u

-- ---- events

-- a request, or a registry command that names no group
pub data Event : Type 0 where
  Requested : Request → Event
  TeamAdd : List ℕ → Event
  KeyAdd : List ℕ → List ℕ → Right → Event
  KeyRevoke : List ℕ → Event
  KeysRevoke : List ℕ → Event

-- the event as one of the machine with groups
abbrev pub event_in : Event → WholeEvent
event_in (Requested a) = whole.Requested a
event_in (TeamAdd t) = whole.TeamAdd t None
event_in (KeyAdd s k right) = whole.KeyAdd s k right
event_in (KeyRevoke k) = whole.KeyRevoke k
event_in (KeysRevoke s) = whole.KeysRevoke s

-- What this machine replies to an event.
abbrev pub reply_to : Ungrouped → Event → Reply
reply_to u (Requested Unreadable) = reply.NotFound
reply_to u (Requested (Get k q)) = keyed_reply u (map.get u.keys k) q
reply_to u (Requested (Put k p)) = reply.Decided (decision u (map.get u.keys k) p)
reply_to u (TeamAdd t) = reply.Registry (team_added u t)
reply_to u (KeyAdd s k right) = reply.Registry (key_added u s k)
reply_to u (KeyRevoke k) = reply.Registry (key_revoked u k)
reply_to u (KeysRevoke s) = reply.Registry (keys_revoked u s)

-- What stands after an event.
abbrev pub after : Ungrouped → Event → Ungrouped
after u (Requested Unreadable) = u
after u (Requested (Get k q)) = u
after u (Requested (Put k p)) = after_decision u (map.get u.keys k) p (decision u (map.get u.keys k) p)
after u (TeamAdd t) = after_team_add u t (team_added u t)
after u (KeyAdd s k right) = after_key_add u s k right (key_added u s k)
after u (KeyRevoke k) = after_key_revoke u k (key_revoked u k)
after u (KeysRevoke s) = after_keys_revoke u s (keys_revoked u s)

abbrev pub replies : Ungrouped → List Event → List Reply
replies u [] = []
replies u (e ∷ es) = reply_to u e ∷ replies (after u e) es

abbrev pub after_all : Ungrouped → List Event → Ungrouped
after_all u [] = u
after_all u (e ∷ es) = after_all (after u e) es

-- ---- laws

-- w is a world without groups, and u has its keys, the names of its shelves, and its entries.
pub record IsOf (u : Ungrouped) (w : World) : Type 0 where
  pub keys : u.keys ≡ w.keys
  pub names : (s : List ℕ) → set.contains u.shelves s ≡ map.contains_key w.shelves s
  pub entries : u.entries ≡ w.entries
  pub none : HasNoGroup w

-- Each world without groups has such a u.
abbrev pub EachIsOfOne : Type 0
EachIsOfOne = (w : World) → HasNoGroup w → (u : Ungrouped) × IsOf u w

-- In a world without groups, the machine replies to each of these events as this one does, and leads to the same keys,
-- shelf names and entries, again without groups.
abbrev pub RepliesWithoutGroups : Type 0
RepliesWithoutGroups =
    (u : Ungrouped) (w : World) (e : Event) → IsWorld w → IsOf u w
    → (machine.reply_to w (event_in e) ≡ reply_to u e) × IsOf (after u e) (machine.after w (event_in e))

-- In a world without groups, the machine replies to each list of these events as this one does, and leads to the same
-- keys, shelf names and entries, again without groups.
abbrev pub ListsWithoutGroups : Type 0
ListsWithoutGroups =
    (u : Ungrouped) (w : World) (es : List Event) → IsWorld w → IsOf u w
    → (machine.replies w (map_list event_in es) ≡ replies u es)
    × IsOf (after_all u es) (machine.after_all w (map_list event_in es))
