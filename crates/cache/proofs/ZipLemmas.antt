-- Kept zips stay right when one more is kept, when some are dropped, and when the world grows.
use Rattle.std.proofs.Common.{◌≡◌, ◌∙◌, ◌⊎◌, ℕ, List, [], ◌∷◌, true, Option, None, Some, inl, inr, refl, sym, ap, subst}
use Rattle.std.specs.Prelude.{bytes_eq, IsTrue, IfSome}
use Rattle.std.specs.FinMap as map
use Rattle.std.specs.Option.{option_or}
use Rattle.std.proofs.lemmas.Bool.{and_parts}
use Rattle.world.specs.declared.entry.Entry.{Entry}
use Rattle.world.specs.declared.entry.Place.{Place}
use Rattle.world.specs.declared.entry.Seen.{Seen}
use Rattle.world.specs.World.{World, place, seen_at, first_on, with_entry}
use Rattle.world.proofs.Orders.{places_total, places_exact, get_elsewhere, text_same}
use Rattle.cache.specs.declared.zips.KeptZip.{KeptZip}
use Rattle.cache.specs.Recent.{Holds}
use Rattle.cache.specs.Zips.{is_at, IsZipAt, IsSeenAt, AreZips}
use Rattle.cache.proofs.RecentLemmas.{holds_none}

abbrev pub Caches : Type 0
Caches = List (ℕ × (ℕ × KeptZip))

-- ---- fewer zips, none, and one more

pub fewer_zips : (w : World) (old new : Caches) → ((it : KeptZip) → Holds new it → Holds old it) → AreZips w old
    → AreZips w new
fewer_zips w old new among are it at = are it (among it at)

pub no_zips : (w : World) (zips : Caches) → zips ≡ [] → AreZips w zips
no_zips w zips none it at = absurd (holds_none it (subst (λ l. Holds l it) none at))

pub one_more_zip : (w : World) (old new : Caches) (kept : KeptZip)
    → ((it : KeptZip) → Holds new it → Holds old it ⊎ (it ≡ kept)) → AreZips w old → IsZipAt w kept.place kept.zip
    → AreZips w new
one_more_zip w old new kept split are is it at = elim (split it at) [
  | inl was ↦ are it was
  | inr same ↦ subst (λ (k : KeptZip). IsZipAt w k.place k.zip) (sym same) is
]

-- ---- a zip that is found

same_place : (q r : Place) → bytes_eq q.shelf r.shelf ≡ true → bytes_eq q.path r.path ≡ true
    → bytes_eq q.version r.version ≡ true → q ≡ r
same_place q r s p v =
    let shelf = text_same q.shelf r.shelf s in
    let path = text_same q.path r.path p in
    let version = text_same q.version r.version v in
    λ i. record { shelf = shelf i; path = path i; version = version i }

pub found_zip : (w : World) (zips : Caches) (it : KeptZip) (q : Place) → Holds zips it → IsTrue (is_at q it)
    → AreZips w zips → IsZipAt w q it.zip
found_zip w zips it q at is are =
    let two = and_parts _ _ is in
    let one = and_parts _ _ two.0 in
    subst (λ (r : Place). IsZipAt w r it.zip) (same_place it.place q one.0 one.1 two.1) (are it at)

-- what holds of a zip holds of the same bytes, if there are any
pub of_same : (P : List ℕ → Type 0) (zip : List ℕ) (again : Option (List ℕ)) → IfSome again (λ b. b ≡ zip) → P zip
    → IfSome again P
of_same P zip None same is = tt
of_same P zip (Some b) same is = subst P (sym same) is

-- ---- the world grows

-- zips stay right when an entry is added at a place that had none
pub zips_still : (w : World) (q : Place) (e : Entry) → map.get w.entries q ≡ None → (zips : Caches) → AreZips w zips
    → AreZips (with_entry w q e) zips
zips_still w q e free zips are it at =
    let was = are it at in
    let elsewhere : it.place ≡ q → ⊥ = λ same. let never : None ≡ Some was.0 = sym free
    ∙ (ap (map.get w.entries) (sym same) ∙ was.1) in cc never in
    (was.0, get_elsewhere places_total places_exact w.entries q e it.place elsewhere ∙ was.1, was.2)

-- ---- what is seen

-- what is seen is the entry that its shelf has there
pub stands_on : (w : World) (ss : List (List ℕ)) (p v : List ℕ) (seen : Option Seen) → first_on w ss p v ≡ seen
    → IsSeenAt w p v seen
stands_on w ss p v None found = tt
stands_on w ss p v (Some e) found = go ss found
  where
    go : (ss : List (List ℕ)) → first_on w ss p v ≡ Some e → map.get w.entries (place e.shelf p v) ≡ Some e.entry
    go [] found = cc found
    go (s ∷ ss) found =
        elim (map.get w.entries (place s p v))
        as (λ o. map.get w.entries (place s p v) ≡ o → option_or (seen_at o s) (first_on w ss p v) ≡ Some e
        → map.get w.entries (place e.shelf p v) ≡ Some e.entry) [
          | None ↦ λ _ rest. go ss rest
          | Some x ↦ λ here is.
              let mine : Seen = record { shelf = s; entry = x } in
              let same : mine ≡ e = cc is in
              subst (λ (y : Seen). map.get w.entries (place y.shelf p v) ≡ Some y.entry) same here
        ] refl found
