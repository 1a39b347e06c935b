-- The versions of a path that a shelf sees are those at which it sees an entry, and each fits the path.
use Rattle.std.proofs.Common.{◌≡◌, ℕ, List, [], ◌∷◌, true, refl, ◌∙◌, sym, ap, subst, inl, inr, Option, Some, None}
use Rattle.std.specs.Prelude.{◌↔◌, Contains, is_some}
use Rattle.std.specs.Option.{option_or}
use Rattle.std.specs.declared.cmp.Ordering.TheVariants.{Less}
use Rattle.std.specs.FinMap as map
use Rattle.std.specs.FinSet as set
use Rattle.std.proofs.lemmas.Bool.{true≢false, or_cases, or_left, or_right}
use Rattle.std.proofs.lemmas.List.Elements.{Contains-append_left, Contains-append_right, Contains-append_cases}
use Rattle.gomod.specs.Keywords.{Keywords, profile_in_force}
use Rattle.modver.specs.Fits.{IsVersionOf, fits}
use Rattle.modver.specs.Reading.{IsCanonical, version_of}
use Rattle.modver.specs.SemanticVersion.{SemanticVersion, version_text}
use Rattle.modver.proofs.Readings.{text-one, version-of}
use Rattle.modpath.specs.Path.{suffix_of}
use Rattle.world.specs.declared.entry.Seen.{Seen}
use Rattle.world.specs.Latest.{AllOf}
use Rattle.world.specs.Lines.{in_order, EachToNext}
use Rattle.world.specs.Versions.{with_version, named, named_on, version_cmp, by_precedence, versions_of, VersionsAscend}
use Rattle.world.specs.Visible.{IsSeen, seen_versions, versions_among, versions_on, versions_seen}
use Rattle.world.specs.World.{World, IsWorld, IsWorldBy, IsEntry, IsEntryBy, chain, place, text_cmp, seen_at, first_on}
use Rattle.world.specs.World.{view}
use Rattle.world.proofs.Orders.{texts_total, texts_exact}
use Rattle.world.proofs.Members.{no_member, first_member, later_member, member_cases, in_order_rises, in_order_of}
use Rattle.world.proofs.Members.{in_set_of}
use Rattle.world.proofs.Precedence.{same_versions, sorted_members, below_next}
use Rattle.world.proofs.Seen.{contains_versions}

-- ---- what is seen

pub some_of : {A : Type 0} (o : Option A) → (is_some o ≡ true) ↔ ((x : A) × (o ≡ Some x))
some_of None = (λ e. absurd (true≢false (sym e)), λ e. cc (e.1))
some_of (Some x) = (λ e. (x, refl), λ e. refl)

pub versions_are_seen : (w : World) (s p v : List ℕ) → (set.contains (versions_seen w s p) v ≡ true) ↔ IsSeen w s p v
versions_are_seen w s p v =
    let some = some_of (view w s p v) in
    (λ at. some.0 (sym (contains_versions w s p v) ∙ at), λ seen. contains_versions w s p v ∙ some.1 seen)

-- ---- the versions that texts name

abbrev NamedBy : List (List ℕ) → SemanticVersion → Type 0
NamedBy ts v = (t : List ℕ) × Contains ts t × (version_of t ≡ Some v)

-- a version is among those that the texts name exactly if one of the texts names it
named_by : (ts : List (List ℕ)) (v : SemanticVersion) → Contains (named ts) v ↔ NamedBy ts v
named_by [] v = (λ at. absurd (no_member v at), λ h. absurd (no_member h.0 h.1))
named_by (t ∷ ts) v =
    elim (version_of t) as (λ o. version_of t ≡ o → Contains (with_version o (named ts)) v ↔ NamedBy (t ∷ ts) v) [
      | None ↦ λ none. (
        λ at. let rest = (named_by ts v).0 at in (rest.0, later_member t rest.0 ts rest.1, rest.2),
        λ h. elim (member_cases t h.0 ts h.1) [
          | inl same ↦ let never : None ≡ Some v = sym none ∙ ap version_of same ∙ h.2 in cc never
          | inr later ↦ (named_by ts v).1 (h.0, later, h.2)
        ],
      )
      | Some u ↦ λ some. (
        λ at. elim (member_cases u v (named ts) at) [
          | inl same ↦ (t, first_member t ts, some ∙ ap Some same)
          | inr later ↦ let rest = (named_by ts v).0 later in (rest.0, later_member t rest.0 ts rest.1, rest.2)
        ],
        λ h. elim (member_cases t h.0 ts h.1) [
          | inl same ↦ let is : u ≡ v = cc (sym some ∙ ap version_of same ∙ h.2) in
              subst (Contains (u ∷ named ts)) is (first_member u (named ts))
          | inr later ↦ later_member u v (named ts) ((named_by ts v).1 (h.0, later, h.2))
        ],
      )
    ] refl

-- the versions that the texts of a set name
module _ (v : SemanticVersion) where
  abbrev NamedIn : set.FinSet text_cmp → Type 0
  NamedIn ts = (t : List ℕ) × (set.contains ts t ≡ true) × (version_of t ≡ Some v)

  named_in : (ts : set.FinSet text_cmp) → Contains (named (in_order ts)) v ↔ NamedIn ts
  named_in ts = (
    λ at. let by = (named_by (in_order ts) v).0 at in (by.0, in_set_of texts_total texts_exact ts by.0 by.1, by.2),
    λ h. (named_by (in_order ts) v).1 (h.0, in_order_of texts_total texts_exact ts h.0 h.1, h.2),
  )

-- ---- the versions of a path that a shelf sees

-- the texts on some shelves, shelf by shelf, name the versions that all of these texts together name
named_on_members : (w : World) (ss : List (List ℕ)) (p : List ℕ) (v : SemanticVersion)
    → Contains (named_on w ss p) v ↔ Contains (named (in_order (versions_on w ss p))) v
named_on_members w [] p v = (
  λ at. absurd (no_member v at),
  λ at. let by = (named_in v set.empty).0 at in absurd (true≢false (sym by.1 ∙ set.contains-empty text_cmp by.0)),
)
named_on_members w (s ∷ ss) p v =
    let here = versions_among s p (map.entries w.entries) in
    let behind = versions_on w ss p in
    let all = set.union here behind in
    let rest = named_on_members w ss p v in
    let either = λ (t : List ℕ). set.contains-union texts_total here behind t in (
      λ at. elim (Contains-append_cases (named (in_order here)) (named_on w ss p) v at) [
        | inl one ↦ let by = (named_in v here).0 one in (named_in v all).1 (by.0, either by.0 ∙ or_left _ _ by.1, by.2)
        | inr other ↦ let by = (named_in v behind).0 (rest.0 other) in
            (named_in v all).1 (by.0, either by.0 ∙ or_right (set.contains here by.0) _ by.1, by.2)
      ],
      λ at.
          let by = (named_in v all).0 at in
          elim (or_cases (set.contains here by.0) _ (sym (either by.0) ∙ by.1)) [
            | inl one ↦ Contains-append_left (named (in_order here)) (named_on w ss p) v
                ((named_in v here).1 (by.0, one, by.2))
            | inr other ↦ Contains-append_right (named (in_order here)) (named_on w ss p) v
                (rest.1 ((named_in v behind).1 (by.0, other, by.2)))
          ],
    )

-- the versions that the texts on the chain of a shelf name, by precedence, are those that the shelf sees
pub on_chain : (w : World) (s p : List ℕ) → in_order (by_precedence (named_on w (chain w s) p)) ≡ versions_of w s p
on_chain w s p = ap in_order (same_versions _ _ (λ v. named_on_members w (chain w s) p v))

-- what is seen stands on a shelf
stands_on : (w : World) (ss : List (List ℕ)) (p v : List ℕ) (e : Seen) → first_on w ss p v ≡ Some e
    → map.get w.entries (place e.shelf p v) ≡ Some e.entry
stands_on w [] p v e found = cc found
stands_on w (s ∷ ss) p v e found =
    elim (map.get w.entries (place s p v)) as
    (λ o. map.get w.entries (place s p v) ≡ o → option_or (seen_at o s) (first_on w ss p v) ≡ Some e
    → map.get w.entries (place e.shelf p v) ≡ Some e.entry) [
      | None ↦ λ _ rest. stands_on w ss p v e rest
      | Some x ↦ λ here is.
          let mine : Seen = record { shelf = s; entry = x } in
          let same : mine ≡ e = cc is in
          subst (λ (y : Seen). map.get w.entries (place y.shelf p v) ≡ Some y.entry) same here
    ] refl found

pub entry_by : (known : Keywords) (w : World) (s p t : List ℕ) → IsWorldBy known w → (seen : IsSeen w s p t)
    → IsEntryBy known (place seen.0.shelf p t) seen.0.entry
entry_by known w s p t is seen =
    is.entries_fit (place seen.0.shelf p t) seen.0.entry (stands_on w (chain w s) p t seen.0 seen.1)

module _ (w : World) (is : IsWorld w) (s p : List ℕ) where
  pub entry_at : (t : List ℕ) (seen : IsSeen w s p t) → IsEntry (place seen.0.shelf p t) seen.0.entry
  entry_at t seen = entry_by profile_in_force w s p t is seen

  -- the texts of the versions that a shelf sees of a path name exactly the versions that it sees
  named_members : (v : SemanticVersion) → Contains (named (in_order (versions_seen w s p))) v ↔ seen_versions w s p v
  named_members v =
      let vs = versions_seen w s p in (
        λ at.
            let by = (named_by (in_order vs) v).0 at in
            let canonical : IsCanonical by.0 v = (version-of by.0 v).0 by.2 in (
              canonical.valid,
              subst (IsSeen w s p) (sym canonical.same)
                  ((versions_are_seen w s p by.0).0 (in_set_of texts_total texts_exact vs by.0 by.1)),
            ),
        λ seen.
            let entry = entry_at (version_text v) seen.1 in
            let canonical : IsCanonical (version_text v) v =
            record { valid = seen.0; same = refl; short = entry.version.1.short } in
            (named_by (in_order vs) v).1 (
              version_text v,
              in_order_of texts_total texts_exact vs (version_text v)
                  ((versions_are_seen w s p (version_text v)).1 seen.1),
              (version-of (version_text v) v).1 canonical,
            ),
      )

  pub seen_members : (v : SemanticVersion) → Contains (versions_of w s p) v ↔ seen_versions w s p v
  seen_members v =
      let sorted = sorted_members (named (in_order (versions_seen w s p))) v in
      let seen = named_members v in (λ at. seen.0 (sorted.0 at), λ h. sorted.1 (seen.1 h))

  -- each of them fits the path
  pub seen_fits : (v : SemanticVersion) → seen_versions w s p v → IsVersionOf p v
  seen_fits v seen =
      let entry = entry_at (version_text v) seen.1 in
      let same : entry.version.0 ≡ v = text-one entry.version.0 v entry.version.1.valid seen.0 entry.version.1.same in
      (seen.0, subst (λ u. fits (suffix_of p) u ≡ true) same entry.fits)

  pub versions_fit : AllOf p (versions_of w s p)
  versions_fit v at = seen_fits v ((seen_members v).0 at)

  -- where an entry is seen, so is its version
  pub version_there : (t : List ℕ) → IsSeen w s p t → (v : SemanticVersion) × seen_versions w s p v
  version_there t seen = let entry = entry_at t seen in
      (entry.version.0, (entry.version.1.valid, subst (IsSeen w s p) (sym entry.version.1.same) seen))

-- ---- in ascending precedence

pub versions_rise : (w : World) (s p : List ℕ) → EachToNext (λ u v. version_cmp u v ≡ Less) (versions_of w s p)
versions_rise w s p = in_order_rises version_cmp (by_precedence (named (in_order (versions_seen w s p))))

pub versions_ascend : VersionsAscend
versions_ascend w s p is =
    record {
      members = seen_members w is s p;
      ascend =
          below_next p (versions_of w s p) (versions_fit w is s p) (versions_rise w s p);
    }
