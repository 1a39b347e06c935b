-- Worlds: what stands on the shelves, whose the keys are, and what each shelf sees.
use Rattle.std.specs.Prelude.{ℕ, List, [], ◌∷◌, Bool, true, false, not, ◌&&◌, if◌then◌else◌, Option, Some}
use Rattle.std.specs.Prelude.{None, bytes_eq, ◌≡◌, ◌≤◌, ◌⊎◌, length, option_map, unwrap_or}
use Rattle.std.specs.List.{list_any}
use Rattle.std.specs.Option.{option_or}
use Rattle.std.specs.Ordering.{nat_cmp, ordering_then}
use Rattle.std.specs.Cmp.Lexicographic.{slice_cmp}
use Rattle.std.specs.declared.cmp.Ordering.{Ordering}
use Rattle.std.specs.FinMap as map
use Rattle.world.specs.declared.entry.Place.{Place}
use Rattle.world.specs.declared.entry.Entry.{Entry}
use Rattle.world.specs.declared.entry.Heading.{Heading}
use Rattle.world.specs.declared.entry.Seen.{Seen}
use Rattle.world.specs.declared.entry.Holder.{Holder}
use Rattle.world.specs.Forms.{IsPath, IsVersionText, fits, suffix_of}
use Rattle.gomod.specs.Keywords.{Keywords, profile_in_force}
use Rattle.world.specs.GoMods.{IsGoModBy}
use Rattle.modver.specs.Class.{class_of}
use Rattle.modver.specs.Time.{IsTime}
use Rattle.modver.specs.declared.version.Class.{Class}
use Rattle.modver.specs.declared.version.Class.TheVariants as class
pub use Rattle.world.specs.Names.{common, is_team_name, is_key}

-- the order of texts: byte by byte
abbrev pub text_cmp : List ℕ → List ℕ → Ordering
text_cmp = slice_cmp nat_cmp

-- the order of places: by shelf, then by path, then by version, each as a text
abbrev pub place_cmp : Place → Place → Ordering
place_cmp a b = ordering_then (text_cmp a.shelf b.shelf)
    (ordering_then (text_cmp a.path b.path) (text_cmp a.version b.version))

-- the place of a shelf, a path and a version
abbrev pub place : List ℕ → List ℕ → List ℕ → Place
place s p v = record { shelf = s; path = p; version = v }

-- A world has keys, each with its shelf and right; shelves by name, each with its parent if it has one; and entries by
-- place. Common and groups have no parent; the parent of a team is its group, or common.
pub record World : Type 0 where
  pub keys : map.FinMap text_cmp Holder
  pub shelves : map.FinMap text_cmp (Option (List ℕ))
  pub entries : map.FinMap place_cmp Entry

-- ---- what a shelf sees

-- the group in what stands at a shelf's name: a parent that is not common
abbrev pub group_in : Option (Option (List ℕ)) → Option (List ℕ)
group_in None = None
group_in (Some None) = None
group_in (Some (Some parent)) = if bytes_eq parent common then None else Some parent

-- the group of a shelf, if it has one
abbrev pub group_of : World → List ℕ → Option (List ℕ)
group_of w s = group_in (map.get w.shelves s)

-- the shelves above a shelf of this group, or of no group
abbrev pub above : Option (List ℕ) → List (List ℕ)
above None = common ∷ []
above (Some group) = group ∷ common ∷ []

-- the shelves that a shelf sees, the nearest first: itself, its group if it has one, and common
abbrev pub chain : World → List ℕ → List (List ℕ)
chain w s = s ∷ above (group_of w s)

-- whether a shelf is among these
abbrev pub is_among : List (List ℕ) → List ℕ → Bool
is_among ss t = list_any (bytes_eq t) ss

-- whether the first shelf sees the second
abbrev pub sees : World → List ℕ → List ℕ → Bool
sees w s t = is_among (chain w s) t

-- an entry, if there is one, with the shelf that it stands on
abbrev pub seen_at : Option Entry → List ℕ → Option Seen
seen_at None s = None
seen_at (Some e) s = Some (record { shelf = s; entry = e })

-- the entry of a path and a version on the first of these shelves that has one
abbrev pub first_on : World → List (List ℕ) → List ℕ → List ℕ → Option Seen
first_on w [] p v = None
first_on w (s ∷ ss) p v = option_or (seen_at (map.get w.entries (place s p v)) s) (first_on w ss p v)

-- what a shelf sees of a version: the entry of the nearest shelf of its chain that has one
abbrev pub view : World → List ℕ → List ℕ → List ℕ → Option Seen
view w s p v = first_on w (chain w s) p v

-- an entry without its zip
abbrev pub heading_of : Entry → Heading
heading_of e = record { gomod = e.gomod; time = e.time }

-- what is seen of an entry, without its zip
abbrev pub without_zip : Option Seen → Option Heading
without_zip seen = option_map (λ it. heading_of it.entry) seen

-- what a shelf sees of a version, without its zip
abbrev pub heading : World → List ℕ → List ℕ → List ℕ → Option Heading
heading w s p v = without_zip (view w s p v)

-- the entries that stand on one shelf
abbrev pub on_shelf : World → List ℕ → map.FinMap place_cmp Entry
on_shelf w s = map.retain_keys w.entries (λ q. bytes_eq q.shelf s)

-- how many versions of a path stand on one shelf
abbrev pub count : World → List ℕ → List ℕ → ℕ
count w s p = map.len (map.retain_keys w.entries (λ q. bytes_eq q.shelf s && bytes_eq q.path p))

-- ---- one entry, key or shelf more, or keys less

-- the world with an entry put at a place
abbrev pub with_entry : World → Place → Entry → World
with_entry w q e = record { keys = w.keys; shelves = w.shelves; entries = map.insert w.entries q e }

-- the world with a key added
abbrev pub with_key : World → List ℕ → Holder → World
with_key w k h = record { keys = map.insert w.keys k h; shelves = w.shelves; entries = w.entries }

-- the world without a key
abbrev pub without_key : World → List ℕ → World
without_key w k = record { keys = map.remove w.keys k; shelves = w.shelves; entries = w.entries }

-- whether there is a holder and this is its shelf
abbrev pub is_held_on : List ℕ → Option Holder → Bool
is_held_on s None = false
is_held_on s (Some h) = bytes_eq h.shelf s

-- the world without the keys of a shelf
abbrev pub without_keys_on : World → List ℕ → World
without_keys_on w s = record {
  keys = map.retain_keys w.keys (λ k. not (is_held_on s (map.get w.keys k)));
  shelves = w.shelves;
  entries = w.entries;
}

-- the world with a shelf added, with its parent
abbrev pub with_shelf : World → List ℕ → Option (List ℕ) → World
with_shelf w s parent = record { keys = w.keys; shelves = map.insert w.shelves s parent; entries = w.entries }

-- the world with a team added, of a group or of no group
abbrev pub with_team : World → List ℕ → Option (List ℕ) → World
with_team w s group = with_shelf w s (Some (unwrap_or group common))

-- the world with a group added
abbrev pub with_group : World → List ℕ → World
with_group w s = with_shelf w s None

-- the world with the shelf `common`, no other shelf, no key and no entry
abbrev pub only_common : World
only_common = record { keys = map.empty; shelves = map.insert map.empty common None; entries = map.empty }

-- ---- what holds of every world

-- the most bytes that a go.mod may have
abbrev pub gomod_limit : ℕ
gomod_limit = 1048576

-- the most bytes that a zip may have
abbrev pub zip_limit : ℕ
zip_limit = 16777216

-- the most versions of one path that a shelf may have
abbrev pub version_limit : ℕ
version_limit = 4096

-- this may be the time of an entry with a version of this class: for a pseudo-version it is that of its stamp, for any
-- other version it is absent or well formed
abbrev pub IsTimeOf : Class → Option (List ℕ) → Type 0
IsTimeOf (class.Pseudo stamp) time = time ≡ Some stamp
IsTimeOf c None = Unit {0}
IsTimeOf c (Some time) = IsTime time

-- By these keywords an entry may stand at a place: path and version are well formed and fit each other, the files are
-- within the limits, the time may be that of the version, and the go.mod is that of the path and the version.
pub record IsEntryBy (known : Keywords) (q : Place) (e : Entry) : Type 0 where
  pub path : IsPath q.path
  pub version : IsVersionText q.version
  pub fits : fits (suffix_of q.path) version.0 ≡ true
  pub gomod : length e.gomod ≤ gomod_limit
  pub zip : length e.zip ≤ zip_limit
  pub time : IsTimeOf (class_of version.0) e.time
  pub reads : IsGoModBy known q.path version.0.marked e.gomod

-- by the profile in force an entry may stand at a place
abbrev pub IsEntry : Place → Entry → Type 0
IsEntry q e = IsEntryBy profile_in_force q e

-- What holds of every world whose go.mods are read by these keywords.
pub record IsWorldBy (known : Keywords) (w : World) : Type 0 where
  -- common exists and has no parent, and each other shelf has the name of a team
  pub has_common : map.get w.shelves common ≡ Some None
  pub team_names : (s : List ℕ) → map.contains_key w.shelves s ≡ true → (s ≡ common) ⊎ (is_team_name s ≡ true)
  -- each parent exists and has no parent itself: it is common or a group
  pub parents : (s parent : List ℕ) → map.get w.shelves s ≡ Some (Some parent) → map.get w.shelves parent ≡ Some None
  -- each key is well formed, and its shelf exists
  pub key_names : (k : List ℕ) (h : Holder) → map.get w.keys k ≡ Some h → is_key k ≡ true
  pub keys_stand : (k : List ℕ) (h : Holder) → map.get w.keys k ≡ Some h → map.contains_key w.shelves h.shelf ≡ true
  -- each entry may stand at its place, and its shelf exists
  pub entries_fit : (q : Place) (e : Entry) → map.get w.entries q ≡ Some e → IsEntryBy known q e
  pub entries_stand : (q : Place) (e : Entry) → map.get w.entries q ≡ Some e → map.contains_key w.shelves q.shelf ≡ true
  -- no shelf has more versions of a path than the limit
  pub few : (s p : List ℕ) → count w s p ≤ version_limit

-- What holds of every world: its go.mods are read by the profile in force.
abbrev pub IsWorld : World → Type 0
IsWorld w = IsWorldBy profile_in_force w
