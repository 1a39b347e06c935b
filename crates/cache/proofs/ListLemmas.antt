-- Kept lists stay right when one more is kept, when some are dropped, and when the world grows.
use Rattle.std.proofs.Common.{◌≡◌, ◌∙◌, ◌⊎◌, ℕ, List, [], false, Option, None, Some, inl, inr, refl, sym, ap, subst}
use Rattle.std.proofs.Common.{IfSome}
use Rattle.std.specs.Prelude.{bytes_eq, Contains, IsTrue}
use Rattle.std.specs.FinMap as map
use Rattle.std.proofs.lemmas.Bool.{and_parts}
use Rattle.modver.specs.SemanticVersion.{SemanticVersion, version_text}
use Rattle.world.specs.declared.entry.Entry.{Entry}
use Rattle.world.specs.declared.entry.Seen.{Seen}
use Rattle.world.specs.Latest.{highest, highest_left, module_of, latest_by, latest_of}
use Rattle.world.specs.Versions.{versions_of}
use Rattle.world.specs.Visible.{IsSeen}
use Rattle.world.specs.World.{World, IsWorld, place, chain, view, without_zip, heading, with_entry, with_group}
use Rattle.world.proofs.Orders.{text_same, text_apart}
use Rattle.world.proofs.OtherPaths.{on_others, versions_still}
use Rattle.world.proofs.SeenVersions.{entry_at, seen_members}
use Rattle.cache.specs.declared.lists.KeptList.{KeptList}
use Rattle.cache.specs.Lists.{is_of, IsListIn, AreLists}
use Rattle.cache.specs.Recent.{Holds}
use Rattle.cache.proofs.GroupLemmas.{same_versions, same_view}
use Rattle.cache.proofs.RecentLemmas.{holds_none}

abbrev pub Caches : Type 0
Caches = List (ℕ × (ℕ × KeptList))

-- the list has the versions of the path that the shelf sees, and its latest version, if kept, is the one that the
-- shelf sees
abbrev pub IsListOf : World → KeptList → List ℕ → List ℕ → Type 0
IsListOf w list s p = (list.versions ≡ versions_of w s p) × IfSome list.latest (λ latest. latest ≡ latest_of w s p)

-- ---- fewer lists, none, and one more

pub fewer : (w : World) (old new : Caches) → ((list : KeptList) → Holds new list → Holds old list) → AreLists w old
    → AreLists w new
fewer w old new among are list at = are list (among list at)

pub no_lists : (w : World) (lists : Caches) → lists ≡ [] → AreLists w lists
no_lists w lists none list at = absurd (holds_none list (subst (λ l. Holds l list) none at))

pub one_more : (w : World) (old new : Caches) (it : KeptList)
    → ((list : KeptList) → Holds new list → Holds old list ⊎ (list ≡ it)) → AreLists w old → IsListIn w it
    → AreLists w new
one_more w old new it split are is list at = elim (split list at) [
  | inl was ↦ are list was
  | inr same ↦ subst (IsListIn w) (sym same) is
]

-- ---- a list that is found

pub found : (w : World) (lists : Caches) (list : KeptList) (s p : List ℕ) → Holds lists list → IsTrue (is_of s p list)
    → AreLists w lists → IsListOf w list s p
found w lists list s p at is are =
    let both = and_parts (bytes_eq list.shelf s) (bytes_eq list.path p) is in
    subst (λ t. IsListOf w list t p) (text_same list.shelf s both.0)
    (subst (IsListOf w list list.shelf) (text_same list.path p both.1) (are list at))

-- ---- a version that a shelf does not see

-- a shelf sees nothing at a text that is none of the versions of the path
pub none_seen : (w : World) → IsWorld w → (s p t : List ℕ) (vs : List SemanticVersion) → vs ≡ versions_of w s p
    → ((v : SemanticVersion) → Contains vs v → bytes_eq (version_text v) t ≡ false) → view w s p t ≡ None
none_seen w is s p t vs same other = go (view w s p t) refl
  where
    go : (o : Option Seen) → view w s p t ≡ o → o ≡ None
    go None at = refl
    go (Some seen) at =
        let version = (entry_at w is s p t (seen, at)).version in
        let text : version_text version.0 ≡ t = version.1.same in
        let there = (seen_members w is s p version.0).1 (version.1.valid, subst (IsSeen w s p) (sym text) (seen, at)) in
        let apart = other version.0 (subst (λ l. Contains l version.0) (sym same) there) in
        absurd (text_apart (version_text version.0) t apart text)

-- ---- the world grows

-- a list is right in x if it is right in w, and the shelf sees the same versions and headings of the path in both
module _ (w x : World) (s p : List ℕ) (versions : versions_of w s p ≡ versions_of x s p)
    (headings : (u : List ℕ) → heading w s p u ≡ heading x s p u) where
  by_same : (top : Option SemanticVersion) → latest_by w s p top ≡ latest_by x s p top
  by_same None = refl
  by_same (Some top) = ap (λ shown. highest_left (module_of shown) (versions_of w s p)) (headings (version_text top))
      ∙ ap (highest_left (module_of (heading x s p (version_text top)))) versions

  same_latest : latest_of w s p ≡ latest_of x s p
  same_latest = by_same (highest (versions_of w s p)) ∙ ap (λ vs. latest_by x s p (highest vs)) versions

  same_list : (list : KeptList) → IsListOf w list s p → IsListOf x list s p
  same_list list is = (is.0 ∙ versions, subst (λ latest. IfSome list.latest (λ l. l ≡ latest)) same_latest is.1)

-- a list stays right when another path gets a version
still : (w : World) (s p v : List ℕ) (e : Entry) (other : List ℕ) → bytes_eq other p ≡ false
    → (t : List ℕ) (list : KeptList) → IsListOf w list t other → IsListOf (with_entry w (place s p v) e) list t other
still w s p v e other apart t list is =
    same_list w (with_entry w (place s p v) e) t other
    (sym (versions_still w s p v e other apart t))
    (λ u. ap without_zip (sym (on_others w s p v e other apart (chain w t) u))) list is

pub others_still : (w : World) (s p v : List ℕ) (e : Entry) (lists : Caches)
    → ((list : KeptList) → Holds lists list → bytes_eq list.path p ≡ false) → AreLists w lists
    → AreLists (with_entry w (place s p v) e) lists
others_still w s p v e lists apart are list at = still w s p v e list.path (apart list at) list.shelf list (are list at)

-- lists stay right when a group is added
pub lists_still : (w : World) (g : List ℕ) → map.contains_key w.shelves g ≡ false → (lists : Caches) → AreLists w lists
    → AreLists (with_group w g) lists
lists_still w g free lists are list at =
    same_list w (with_group w g) list.shelf list.path (sym (same_versions w g free list.shelf list.path))
    (λ u. ap without_zip (sym (same_view w g free list.shelf list.path u))) list (are list at)
