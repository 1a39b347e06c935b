-- Which shelves there are, and which of them a shelf sees.
use Rattle.std.proofs.Common.{◌≡◌, ℕ, List, [], ◌∷◌, true, false, cond, refl, sym, ap, ◌∙◌, subst, inl, inr, ◌⊎◌}
use Rattle.std.proofs.Common.{Option, Some, None}
use Rattle.std.specs.Prelude.{bytes_eq, not, is_some}
use Rattle.std.specs.FinMap as map
use Rattle.std.proofs.lemmas.Bool.{true≢false, or_cases, and_from}
use Rattle.world.specs.Groups.{EachHasAKind, IsMember, SeesItsGroup, HasNoGroup, SeesItselfAndCommon}
use Rattle.world.specs.Part.{IsTeam}
use Rattle.world.specs.Registry.{is_top, is_group}
use Rattle.world.specs.World.{World, IsWorld, common, group_in, group_of, above, is_among, sees}
use Rattle.world.proofs.Orders.{text_same}
use Rattle.world.proofs.Sees.{sees_itself, sees_common, sees_parent, only_common, parent_of}

-- a shelf without a parent is common or a group
top_kind : (w : World) (s : List ℕ) → map.get w.shelves s ≡ Some None → (s ≡ common) ⊎ (is_group w s ≡ true)
top_kind w s top =
    elim (bytes_eq s common) as (λ b. bytes_eq s common ≡ b → (s ≡ common) ⊎ (is_group w s ≡ true)) [
      | true ↦ λ same. inl (text_same s common same)
      | false ↦ λ apart. inr (and_from (is_top (map.get w.shelves s)) (not (bytes_eq s common)) (ap is_top top)
          (ap not apart))
    ] refl

pub each_has_a_kind : EachHasAKind
each_has_a_kind w s is there = by_parent (map.get w.shelves s) refl there
  where
    by_parent : (o : Option (Option (List ℕ))) → map.get w.shelves s ≡ o → is_some o ≡ true
        → (s ≡ common) ⊎ ((is_group w s ≡ true) ⊎ IsTeam w s)
    by_parent None at there = absurd (true≢false (sym there))
    by_parent (Some None) at there = elim (top_kind w s at) [ inl same ↦ inl same | inr group ↦ inr (inl group) ]
    by_parent (Some (Some parent)) at there = inr (inr (parent, at))

-- in a world, each shelf above s is common or a group of which s is a member
group_seen : (w : World) → IsWorld w → (s t : List ℕ) (o : Option (List ℕ)) → group_of w s ≡ o
    → is_among (above o) t ≡ true → (t ≡ common) ⊎ IsMember w s t
group_seen w is s t None at seen = inl (only_common t seen)
group_seen w is s t (Some g) at seen =
    elim (or_cases (bytes_eq t g) _ seen) [
      | inl here ↦
          let same = text_same t g here in
          let parent = parent_of w s g at in
          elim (top_kind w g (is.parents s g parent)) [
            | inl is_common ↦ inl (same ∙ is_common)
            | inr group ↦ inr (parent ∙ ap (λ (x : List ℕ). Some (Some x)) (sym same), ap (is_group w) same ∙ group)
          ]
      | inr rest ↦ inl (only_common t rest)
    ]

pub sees_its_group : SeesItsGroup
sees_its_group w s t is = (
  (λ seen. elim (or_cases (bytes_eq t s) _ seen) [
    | inl here ↦ inl (text_same t s here)
    | inr up ↦ inr (group_seen w is s t (group_of w s) refl up)
  ]),
  (λ it. elim it [
    | inl same ↦ subst (λ x. sees w s x ≡ true) (sym same) (sees_itself w s)
    | inr (inl same) ↦ subst (λ x. sees w s x ≡ true) (sym same) (sees_common w s)
    | inr (inr member) ↦ sees_parent w s t member.0
  ]),
)

-- ---- without groups

-- a group is not common
group_apart : (o : Option (Option (List ℕ))) (g : List ℕ) → group_in o ≡ Some g → bytes_eq g common ≡ false
group_apart None g e = cc e
group_apart (Some None) g e = cc e
group_apart (Some (Some parent)) g e =
    elim (bytes_eq parent common) as
    (λ b. bytes_eq parent common ≡ b → cond b None (Some parent) ≡ Some g → bytes_eq g common ≡ false) [
      | true ↦ λ _ never. cc never
      | false ↦ λ apart same. let here : parent ≡ g = cc same in ap (λ (x : List ℕ). bytes_eq x common) (sym here)
          ∙ apart
    ] refl e

alone_above : (w : World) → IsWorld w → HasNoGroup w → (s : List ℕ) (o : Option (List ℕ)) → group_of w s ≡ o
    → above o ≡ common ∷ []
alone_above w is none s None at = refl
alone_above w is none s (Some g) at =
    let top = is.parents s g (parent_of w s g at) in
    let group : is_group w g ≡ true =
    and_from (is_top (map.get w.shelves g)) (not (bytes_eq g common)) (ap is_top top)
    (ap not (group_apart (map.get w.shelves s) g at)) in
    absurd (true≢false (sym group ∙ none g))

pub sees_itself_and_common : SeesItselfAndCommon
sees_itself_and_common w s is none = ap (λ ss. s ∷ ss) (alone_above w is none s (group_of w s) refl)
