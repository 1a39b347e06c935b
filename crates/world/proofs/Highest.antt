-- The highest version of a list is its top.
use Rattle.std.proofs.Common.{◌≡◌, List, [], ◌∷◌, true, false, refl, ◌∙◌, sym, ap, subst, inl, inr, Some, None}
use Rattle.std.specs.Prelude.{◌↔◌, Contains, if◌then◌else◌}
use Rattle.std.specs.Cmp.{IsTotalOrder, tied_itself}
use Rattle.std.specs.declared.cmp.Ordering.{Ordering}
use Rattle.std.specs.declared.cmp.Ordering.TheVariants.{Less, Equal, Greater}
use Rattle.std.proofs.lemmas.Bool.{true≢false, iff_false}
use Rattle.std.proofs.lemmas.Cmp.{nat_cmp_total, on_total, then_total}
use Rattle.gomod.specs.Module.{GoModule, IsRetracted, is_retracted}
use Rattle.gomod.proofs.Retractions.{is_retracted-decides}
use Rattle.latest.specs.Latest.{IsTop, among, is_greater}
use Rattle.modver.specs.Rank.{IsAbove, class_rank, rank_cmp, stamp_number}
use Rattle.modver.specs.SemanticVersion.{SemanticVersion}
use Rattle.modver.proofs.StrictOrders.{precedence_total, turned, turned-back}
use Rattle.world.specs.Latest.{higher, highest, unretracted}
use Rattle.world.proofs.Members.{no_member, first_member, later_member, member_cases}

rank_total : IsTotalOrder rank_cmp
rank_total = then_total (on_total class_rank nat_cmp_total)
    (then_total (on_total stamp_number nat_cmp_total) precedence_total)

-- ---- one version after another

greater : (o : Ordering) → is_greater o ≡ true → o ≡ Greater
greater Less e = absurd (true≢false (sym e))
greater Equal e = absurd (true≢false (sym e))
greater Greater e = refl

not_above_itself : (v : SemanticVersion) → IsAbove v v → ⊥
not_above_itself v above = cc (above, tied_itself rank_total v)

above_through : (x y z : SemanticVersion) → IsAbove x y → IsAbove y z → IsAbove x z
above_through x y z xy yz =
    turned-back rank_cmp rank_total x z
    (rank_total.trans z y x (turned rank_cmp rank_total y z yz) (turned rank_cmp rank_total x y xy))

-- what is above a version is above each that is not above that
above_lower : (x y z : SemanticVersion) → IsAbove x y → is_greater (rank_cmp z y) ≡ false → IsAbove x z
above_lower x y z xy not_higher = by_order (rank_cmp z y) refl
  where
    by_order : (o : Ordering) → rank_cmp z y ≡ o → IsAbove x z
    by_order Less e = turned-back rank_cmp rank_total x z (rank_total.trans z y x e (turned rank_cmp rank_total x y xy))
    by_order Equal e = turned-back rank_cmp rank_total x z
        (rank_total.congr z y x e ∙ turned rank_cmp rank_total x y xy)
    by_order Greater e = absurd (true≢false (sym (ap is_greater e) ∙ not_higher))

-- ---- the highest of a list

alone : (v : SemanticVersion) → IsTop (among (v ∷ [])) v
alone v = record {
  member = first_member v [];
  highest = λ u at. elim (member_cases v u [] at) [
    | inl same ↦ subst (λ y. IsAbove y v → ⊥) same (not_above_itself v)
    | inr never ↦ absurd (no_member u never)
  ];
}

stays : (v u : SemanticVersion) (vs : List SemanticVersion) → IsTop (among vs) u → is_greater (rank_cmp u v) ≡ true
    → IsTop (among (v ∷ vs)) u
stays v u vs top is = record {
  member = later_member v u vs top.member;
  highest = λ y at. elim (member_cases v y vs at) [
    | inl same ↦ subst (λ z. IsAbove z u → ⊥) same
        (λ above. not_above_itself u (above_through u v u (greater (rank_cmp u v) is) above))
    | inr rest ↦ top.highest y rest
  ];
}

takes_over : (v u : SemanticVersion) (vs : List SemanticVersion) → IsTop (among vs) u
    → is_greater (rank_cmp u v) ≡ false → IsTop (among (v ∷ vs)) v
takes_over v u vs top is = record {
  member = first_member v vs;
  highest = λ y at. elim (member_cases v y vs at) [
    | inl same ↦ subst (λ z. IsAbove z v → ⊥) same (not_above_itself v)
    | inr rest ↦ λ above. top.highest y rest (above_lower y v u above is)
  ];
}

higher_top : (v u : SemanticVersion) (vs : List SemanticVersion) → IsTop (among vs) u
    → IsTop (among (v ∷ vs)) (higher v (Some u))
higher_top v u vs top =
    elim (is_greater (rank_cmp u v)) as
    (λ b. is_greater (rank_cmp u v) ≡ b → IsTop (among (v ∷ vs)) (if b then u else v)) [
      | true ↦ λ is. stays v u vs top is
      | false ↦ λ is. takes_over v u vs top is
    ] refl

pub none_highest : (vs : List SemanticVersion) → highest vs ≡ None → vs ≡ []
none_highest [] e = refl
none_highest (v ∷ vs) e = cc e

pub highest_top : (vs : List SemanticVersion) (v : SemanticVersion) → highest vs ≡ Some v → IsTop (among vs) v
highest_top [] v e = cc e
highest_top (x ∷ vs) v e =
    let is : higher x (highest vs) ≡ v = cc e in
    subst (IsTop (among (x ∷ vs))) is
    (elim (highest vs) as (λ o. highest vs ≡ o → IsTop (among (x ∷ vs)) (higher x o)) [
      | None ↦ λ none. subst (λ us. IsTop (among (x ∷ us)) x) (sym (none_highest vs none)) (alone x)
      | Some u ↦ λ some. higher_top x u vs (highest_top vs u some)
    ] refl)

-- ---- those that a go.mod does not retract

module _ (m : GoModule) (v : SemanticVersion) where
  abbrev IsLeft : List SemanticVersion → Type 0
  IsLeft vs = Contains vs v × (¬ IsRetracted m v)

  -- v is in the list without the retracted versions exactly if it is in the list and the go.mod does not retract it
  pub left : (vs : List SemanticVersion) → Contains (unretracted m vs) v ↔ IsLeft vs
  left [] = (λ at. absurd (no_member v at), λ h. absurd (no_member v h.0))
  left (x ∷ vs) =
      elim (is_retracted m x) as
      (λ b. is_retracted m x ≡ b
      → Contains (if b then unretracted m vs else x ∷ unretracted m vs) v ↔ IsLeft (x ∷ vs)) [
        | true ↦ λ gone. (
          λ at. let rest = (left vs).0 at in (later_member x v vs rest.0, rest.1),
          λ h. elim (member_cases x v vs h.0) [
            | inl same ↦ absurd (h.1 (subst (IsRetracted m) same ((is_retracted-decides m x).0 gone)))
            | inr later ↦ (left vs).1 (later, h.1)
          ],
        )
        | false ↦ λ stands. (
          λ at. elim (member_cases x v (unretracted m vs) at) [
            | inl same ↦ subst (λ y. Contains (x ∷ vs) y × (¬ IsRetracted m y)) same
                (first_member x vs, iff_false (is_retracted-decides m x) stands)
            | inr later ↦ let rest = (left vs).0 later in (later_member x v vs rest.0, rest.1)
          ],
          λ h. elim (member_cases x v vs h.0) [
            | inl same ↦ subst (Contains (x ∷ unretracted m vs)) same (first_member x (unretracted m vs))
            | inr later ↦ later_member x v (unretracted m vs) ((left vs).1 (later, h.1))
          ],
        )
      ] refl
