-- What a shelf sees of a world without some newcomers.
use Rattle.std.proofs.Common.{◌≡◌, ℕ, List, [], ◌∷◌, Bool, true, false, cond, Option, Some, None, refl, sym, ap}
use Rattle.std.proofs.Common.{◌∙◌, subst, inl, inr}
use Rattle.std.specs.Prelude.{◌↔◌, ◌&&◌, bytes_eq, is_some, not, Contains, IsTrue}
use Rattle.std.specs.FinMap as map
use Rattle.std.specs.FinSet as set
use Rattle.std.specs.Option.{option_or}
use Rattle.std.proofs.lemmas.Bool.{true≢false, false_from_ne_true, and_parts}
use Rattle.std.proofs.lemmas.List.Elements.{Contains-append_cases, Contains-append_left, Contains-append_right}
use Rattle.std.proofs.lemmas.List.Folds.{Any-from_list_any, list_any-from_Any}
use Rattle.interleave.specs.Interleave.{IsNamed}
use Rattle.modver.specs.SemanticVersion.{SemanticVersion, version_text}
use Rattle.outline.specs.Outline.{outline_of}
use Rattle.world.proofs.Members.{first_member, in_order_of, in_set_of, later_member, member_cases, no_member}
use Rattle.world.proofs.Orders.{places_exact, places_total, text_same, text_self}
use Rattle.world.proofs.Precedence.{same_versions, sorted_members}
use Rattle.world.proofs.SeenVersions.{seen_members}
use Rattle.world.specs.Lines.{in_order}
use Rattle.world.specs.Versions.{by_precedence, named, versions_of}
use Rattle.world.specs.Visible.{IsSeen, seen_versions, versions_seen}
use Rattle.world.specs.World.{World, IsWorld, above, chain, common, first_on, group_of, heading_of, place}
use Rattle.world.specs.World.{place_cmp, seen_at, view}
use Rattle.world.specs.declared.entry.Entry.{Entry}
use Rattle.world.specs.declared.entry.Place.{Place}
use Rattle.world.specs.declared.entry.Seen.{Seen}
use Rattle.catalog.specs.Past.{was_there, without_at, without_is_world}
use Rattle.catalog.specs.Sight.{all_kept, is_gone, is_named, kept, sighting, without}
use Rattle.catalog.specs.declared.sight.Sighting.{Sighting}

-- ---- which newcomers are named so

module _ (news : set.FinSet place_cmp) (p v : List ℕ) where
  named_from : is_named news p v ≡ true → IsNamed news p v
  named_from is =
      let any = Any-from_list_any (λ (q : Place). bytes_eq q.path p && bytes_eq q.version v) (in_order news) is in
      let both = and_parts (bytes_eq any.1.path p) (bytes_eq any.1.version v) any.4 in
      let same : any.1 ≡ place any.1.shelf p v = λ i. record {
        shelf = any.1.shelf;
        path = text_same any.1.path p both.0 i;
        version = text_same any.1.version v both.1 i;
      } in (
        any.1.shelf,
        ap (set.contains news) (sym same) ∙ in_set_of places_total places_exact news any.1 (any.0, any.2, any.3),
      )

  named_back : IsNamed news p v → is_named news p v ≡ true
  named_back named =
      let at = in_order_of places_total places_exact news (place named.0 p v) named.1 in
      list_any-from_Any (λ (q : Place). bytes_eq q.path p && bytes_eq q.version v) (in_order news) (
        at.0,
        place named.0 p v,
        at.1,
        at.2,
        ap (λ b. b && bytes_eq v v) (text_self p) ∙ text_self v,
      )

  -- an answer to whether one is
  pub names_is : (answer : Bool) → IsTrue answer ↔ IsNamed news p v → answer ≡ is_named news p v
  names_is true told = sym (named_back (told.0 refl))
  names_is false told = sym (false_from_ne_true _ (λ is. true≢false (sym (told.1 (named_from is)))))

-- ---- what is seen without them

is_option : {A : Type 0} (o : Option A) → is_some o ≡ true → (x : A) × (o ≡ Some x)
is_option None is = absurd (true≢false (sym is))
is_option (Some x) is = (x, refl)

module _ (w : World) (news : set.FinSet place_cmp) (p v : List ℕ) where
  unnamed_at : is_named news p v ≡ false → (s : List ℕ)
      → map.get (without w news).entries (place s p v) ≡ map.get w.entries (place s p v)
  unnamed_at none s =
      without_at w news (place s p v)
      ∙ ap (λ b. cond (not b) (map.get w.entries (place s p v)) None)
      (false_from_ne_true (set.contains news (place s p v)) (λ at.
      true≢false (sym (named_back news p v (s, at)) ∙ none)))

  unnamed_on : is_named news p v ≡ false → (ss : List (List ℕ)) → first_on (without w news) ss p v ≡ first_on w ss p v
  unnamed_on none [] = refl
  unnamed_on none (s ∷ ss) = λ i. option_or (seen_at (unnamed_at none s i) s) (unnamed_on none ss i)

  -- a version that no newcomer names is seen as with them
  pub unnamed : is_named news p v ≡ false → (s : List ℕ) → view (without w news) s p v ≡ view w s p v
  unnamed none s = unnamed_on none (chain w s)

  some_too : (s : List ℕ) (o all : Option Entry) (rest more : Option Seen) → ((e : Entry) → o ≡ Some e → all ≡ Some e)
      → (is_some rest ≡ true → is_some more ≡ true) → is_some (option_or (seen_at o s) rest) ≡ true
      → is_some (option_or (seen_at all s) more) ≡ true
  some_too s (Some e) all rest more here next at = ap (λ k. is_some (option_or (seen_at k s) more)) (here e refl)
  some_too s None (Some e) rest more here next at = refl
  some_too s None None rest more here next at = next at

  seen_on : (ss : List (List ℕ)) → is_some (first_on (without w news) ss p v) ≡ true
      → is_some (first_on w ss p v) ≡ true
  seen_on [] at = at
  seen_on (s ∷ ss) at =
      some_too s (map.get (without w news).entries (place s p v)) (map.get w.entries (place s p v))
      (first_on (without w news) ss p v) (first_on w ss p v) (was_there w news (place s p v)) (seen_on ss) at

  -- what is seen without them is seen with them
  pub seen_too : (s : List ℕ) → is_some (view (without w news) s p v) ≡ true → is_some (view w s p v) ≡ true
  seen_too s at = seen_on (chain w s) at

-- ---- what stands on one shelf

-- what is seen stands on a shelf
stands_on : (w : World) (ss : List (List ℕ)) (p v : List ℕ) (e : Seen) → first_on w ss p v ≡ Some e
    → map.get w.entries (place e.shelf p v) ≡ Some e.entry
stands_on w [] p v e found = cc found
stands_on w (s ∷ ss) p v e found =
    elim (map.get w.entries (place s p v)) as
    (λ o. map.get w.entries (place s p v) ≡ o → option_or (seen_at o s) (first_on w ss p v) ≡ Some e
    → map.get w.entries (place e.shelf p v) ≡ Some e.entry) [
      | None ↦ λ _ rest. stands_on w ss p v e rest
      | Some x ↦ λ here is.
          let mine : Seen = record { shelf = s; entry = x } in
          let same : mine ≡ e = cc is in
          subst (λ (y : Seen). map.get w.entries (place y.shelf p v) ≡ Some y.entry) same here
    ] refl found

module _ (w : World) (news : set.FinSet place_cmp) (d p v : List ℕ) where
  abbrev here : Option Entry
  here = map.get w.entries (place d p v)

  abbrev left : Option Entry
  left = map.get (without w news).entries (place d p v)

  left_none : here ≡ None → left ≡ None
  left_none none = without_at w news (place d p v)
      ∙ ap (λ o. cond (not (set.contains news (place d p v))) o None) none
      ∙ either (not (set.contains news (place d p v)))
    where
      either : (b : Bool) → ◌≡◌ {A = Option Entry} (cond b None None) None
      either true = refl
      either false = refl

  none_seen : (o : Option Entry) (rest : Option Seen) → None ≡ sighting (option_or (seen_at o d) rest) → o ≡ None
  none_seen None rest none = refl
  none_seen (Some e) rest none = absurd (let never = none in cc)

  other_seen : (o : Option Entry) (rest : Option Seen) (it : Sighting)
      → Some it ≡ sighting (option_or (seen_at o d) rest) → (it.outline.shelf ≡ d → ⊥) → o ≡ None
  other_seen None rest it is apart = refl
  other_seen (Some e) rest it is apart =
      let mine : Sighting = record { heading = heading_of e; outline = outline_of (record { shelf = d; entry = e }) } in
      let same : it ≡ mine = cc is in
      absurd (apart (ap (λ (x : Sighting). x.outline.shelf) same))

  -- nothing is seen there, so nothing stands there
  pub own_none : None ≡ sighting (view w d p v) → None ≡ sighting (seen_at left d)
  own_none none =
      ap (λ o. sighting (seen_at o d)) (sym (left_none (none_seen here (first_on w (above (group_of w d)) p v) none)))

  -- what is seen there stands on another shelf
  pub own_other : (it : Sighting) → Some it ≡ sighting (view w d p v) → (it.outline.shelf ≡ d → ⊥)
      → None ≡ sighting (seen_at left d)
  own_other it is apart =
      ap (λ o. sighting (seen_at o d))
      (sym (left_none (other_seen here (first_on w (above (group_of w d)) p v) it is apart)))

  -- it is a newcomer
  pub own_new : set.contains news (place d p v) ≡ true → None ≡ sighting (seen_at left d)
  own_new new =
      ap (λ o. sighting (seen_at o d))
      (sym (without_at w news (place d p v) ∙ ap (λ b. cond (not b) here None) new))

  stands_there : (seen : Option Seen) → view w d p v ≡ seen → (it : Sighting) → Some it ≡ sighting seen
      → it.outline.shelf ≡ d → Some it ≡ sighting (seen_at here d)
  stands_there None at it is own = absurd (let never = is in cc)
  stands_there (Some e) at it is own =
      let mine : Sighting = record { heading = heading_of e.entry; outline = outline_of e } in
      let same : it ≡ mine = cc is in
      let shelf : e.shelf ≡ d = ap (λ (x : Sighting). x.outline.shelf) (sym same) ∙ own in
      let stands : here ≡ Some e.entry =
      subst (λ t. map.get w.entries (place t p v) ≡ Some e.entry) shelf (stands_on w (chain w d) p v e at) in
      is ∙ ap (λ (x : Seen). sighting (Some x)) (λ i. record { shelf = shelf i; entry = e.entry })
      ∙ ap (λ o. sighting (seen_at o d)) (sym stands)

  -- it is none
  pub own_there : (it : Sighting) → Some it ≡ sighting (view w d p v) → it.outline.shelf ≡ d
      → set.contains news (place d p v) ≡ false → Some it ≡ sighting (seen_at left d)
  own_there it is own old =
      stands_there (view w d p v) refl it is own
      ∙ ap (λ o. sighting (seen_at o d))
      (sym (without_at w news (place d p v) ∙ ap (λ b. cond (not b) here None) old))

-- ---- the nearest shelf that has it

pub first_there : (it : Sighting) (x y : Option Seen) → Some it ≡ sighting x → Some it ≡ sighting (option_or x y)
first_there it None y is = absurd (let never = is in cc)
first_there it (Some seen) y is = is

pub first_not : (x y : Option Seen) → None ≡ sighting x → sighting y ≡ sighting (option_or x y)
first_not None y none = refl
first_not (Some seen) y none = absurd (let never = none in cc)

or_none : (x : Option Seen) → option_or x None ≡ x
or_none None = refl
or_none (Some seen) = refl

module _ (w : World) (news : set.FinSet place_cmp) (s p v : List ℕ) where
  abbrev pub at : List ℕ → Option Seen
  at d = seen_at (map.get (without w news).entries (place d p v)) d

  -- its own
  pub behind_own : (it : Sighting) → Some it ≡ sighting (at s) → Some it ≡ sighting (view (without w news) s p v)
  behind_own it is = first_there it (at s) (first_on (without w news) (above (group_of w s)) p v) is

  -- that of its group
  pub behind_group : (g : List ℕ) (it : Sighting) → None ≡ sighting (at s) → Some g ≡ group_of w s
      → Some it ≡ sighting (at g) → Some it ≡ sighting (view (without w news) s p v)
  behind_group g it none grouped is =
      first_there it (at g) (first_on (without w news) (common ∷ []) p v) is
      ∙ ap (λ group. sighting (first_on (without w news) (above group) p v)) grouped
      ∙ first_not (at s) (first_on (without w news) (above (group_of w s)) p v) none

  -- that of common, behind a group
  pub behind_both : (g : List ℕ) (found : Option Sighting) → None ≡ sighting (at s) → Some g ≡ group_of w s
      → None ≡ sighting (at g) → found ≡ sighting (at common) → found ≡ sighting (view (without w news) s p v)
  behind_both g found none grouped neither is =
      is ∙ ap sighting (sym (or_none (at common)))
      ∙ first_not (at g) (first_on (without w news) (common ∷ []) p v) neither
      ∙ ap (λ group. sighting (first_on (without w news) (above group) p v)) grouped
      ∙ first_not (at s) (first_on (without w news) (above (group_of w s)) p v) none

  -- that of common, without a group
  pub behind_common : (found : Option Sighting) → None ≡ sighting (at s) → None ≡ group_of w s
      → found ≡ sighting (at common) → found ≡ sighting (view (without w news) s p v)
  behind_common found none alone is =
      is ∙ ap sighting (sym (or_none (at common)))
      ∙ ap (λ group. sighting (first_on (without w news) (above group) p v)) alone
      ∙ first_not (at s) (first_on (without w news) (above (group_of w s)) p v) none

-- whether it is gone, by what is behind the newcomers
pub is_gone_by : (w : World) (news : set.FinSet place_cmp) (s p v : List ℕ) → is_named news p v ≡ true
    → (found : Option Sighting) → found ≡ sighting (view (without w news) s p v) → (none : Bool)
    → is_some found ≡ not none → none ≡ is_gone w news s p v
is_gone_by w news s p v named found is none told =
    not_not none ∙ ap not (sym told ∙ ap is_some is ∙ some_sighting (view (without w news) s p v))
    ∙ ap (λ b. b && not (is_some (view (without w news) s p v))) (sym named)
  where
    not_not : (b : Bool) → b ≡ not (not b)
    not_not true = refl
    not_not false = refl

    some_sighting : (seen : Option Seen) → is_some (sighting seen) ≡ is_some seen
    some_sighting None = refl
    some_sighting (Some seen) = refl

-- ---- the versions that are left

module _ (w : World) (news : set.FinSet place_cmp) (s p : List ℕ) where
  -- those of a list that are not gone
  kept_members : (vs : List SemanticVersion) (v : SemanticVersion)
      → Contains (all_kept w news s p vs) v ↔ (Contains vs v × (is_gone w news s p (version_text v) ≡ false))
  kept_members [] v = (λ at. absurd (no_member v at), λ at. at.0)
  kept_members (u ∷ us) v =
      let rest = kept_members us v in (
        λ at. elim (Contains-append_cases (kept w news s p u) (all_kept w news s p us) v at) [
          | inl one ↦ from_one (is_gone w news s p (version_text u)) refl one
          | inr other ↦ let both = rest.0 other in (later_member u v us both.0, both.1)
        ],
        λ both. elim (member_cases u v us both.0) [
          | inl same ↦ Contains-append_left (kept w news s p u) (all_kept w news s p us) v
              (subst (λ b. Contains (cond b [] (u ∷ [])) v)
              (sym (ap (λ x. is_gone w news s p (version_text x)) same ∙ both.1))
              (subst (Contains (u ∷ [])) same (first_member u [])))
          | inr later ↦ Contains-append_right (kept w news s p u) (all_kept w news s p us) v (rest.1 (later, both.1))
        ],
      )
    where
      from_one : (b : Bool) → is_gone w news s p (version_text u) ≡ b → Contains (cond b [] (u ∷ [])) v
          → Contains (u ∷ us) v × (is_gone w news s p (version_text v) ≡ false)
      from_one true gone one = absurd (no_member v one)
      from_one false here one = elim (member_cases u v [] one) [
        | inl same ↦ (
          subst (Contains (u ∷ us)) same (first_member u us),
          ap (λ x. is_gone w news s p (version_text x)) (sym same) ∙ here,
        )
        | inr none ↦ absurd (no_member v none)
      ]

  module _ (is : IsWorld w) where
    still_seen : (t : List ℕ) (b : Bool) → is_named news p t ≡ b → (c : Bool)
        → is_some (view (without w news) s p t) ≡ c → (b && not c) ≡ false → IsSeen w s p t
        → IsSeen (without w news) s p t
    still_seen t false none c seen gone was = (was.0, unnamed w news p t none s ∙ was.1)
    still_seen t true named true seen gone was = is_option (view (without w news) s p t) seen
    still_seen t true named false seen gone was = absurd (true≢false gone)

    not_gone : (b c : Bool) → c ≡ true → (b && not c) ≡ false
    not_gone true true is = refl
    not_gone false true is = refl
    not_gone b false never = absurd (true≢false (sym never))

    left_members : (v : SemanticVersion)
        → Contains (all_kept w news s p (versions_of w s p)) v ↔ seen_versions (without w news) s p v
    left_members v =
        let t = version_text v in
        let kept = kept_members (versions_of w s p) v in
        let all = seen_members w is s p v in (
          λ at.
              let both = kept.0 at in
              let was = all.0 both.0 in (
                was.0,
                still_seen t (is_named news p t) refl (is_some (view (without w news) s p t)) refl both.1 was.1,
              ),
          λ seen.
              let some : is_some (view (without w news) s p t) ≡ true = ap is_some seen.1.1 in
              kept.1 (
                all.1 (seen.0, is_option (view w s p t) (seen_too w news p t s some)),
                not_gone (is_named news p t) (is_some (view (without w news) s p t)) some,
              ),
        )

    -- they are those that the shelf sees without the newcomers
    pub kept_versions : in_order (by_precedence (all_kept w news s p (versions_of w s p)))
        ≡ versions_of (without w news) s p
    kept_versions =
        let texts = named (in_order (versions_seen (without w news) s p)) in
        ap in_order (same_versions (all_kept w news s p (versions_of w s p)) texts (λ v.
        let sorted = sorted_members texts v in
        let seen = seen_members (without w news) (without_is_world w news is) s p v in
        let left = left_members v in
        (λ at. sorted.0 (seen.1 (left.0 at)), λ at. left.1 (seen.0 (sorted.1 at)))))
