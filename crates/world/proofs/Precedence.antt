-- The versions of a list by precedence are its versions, and those of one path stand each below the next.
use Rattle.std.proofs.Common.{◌≡◌, ℕ, List, [], ◌∷◌, true, false, refl, ◌∙◌, sym, ap, subst, inl, inr, ◌⊎◌}
use Rattle.std.specs.Prelude.{◌↔◌, Contains}
use Rattle.std.specs.Ordering.{eq_by_cmp, is_eq, ordering_then}
use Rattle.std.specs.declared.cmp.Ordering.{Ordering}
use Rattle.std.specs.declared.cmp.Ordering.TheVariants.{Less, Equal, Greater}
use Rattle.std.specs.Cmp.{tied_itself}
use Rattle.std.specs.FinSet as set
use Rattle.std.proofs.lemmas.Bool.{true≢false, or_cases, or_left, or_right}
use Rattle.std.proofs.lemmas.Map.Views.{tells_apart}
use Rattle.modver.specs.Fits.{IsVersionOf}
use Rattle.modver.specs.Precedence.{IsBelow, precedence}
use Rattle.modver.specs.SemanticVersion.{SemanticVersion}
use Rattle.modver.proofs.StrictOrders.{precedence-tied}
use Rattle.modpath.specs.Path.{suffix_of}
use Rattle.world.specs.Latest.{AllOf}
use Rattle.world.specs.Lines.{in_order, EachToNext}
use Rattle.world.specs.Versions.{version_cmp, versions_total, by_precedence}
use Rattle.world.proofs.InOrder.{same_bool}
use Rattle.world.proofs.Members.{no_member, first_member, later_member, member_cases, in_order_of, in_set_of}
use Rattle.world.proofs.VersionOrder.{versions_exact}

-- ---- their members

one_more : (vs : List SemanticVersion) (x v : SemanticVersion)
    → (set.contains (by_precedence (x ∷ vs)) v ≡ true) ↔ ((x ≡ v) ⊎ (set.contains (by_precedence vs) v ≡ true))
one_more vs x v =
    let more = set.contains-insert versions_total (by_precedence vs) x v in (
      λ at. elim (or_cases (eq_by_cmp version_cmp v x) _ (sym more ∙ at)) [
        | inl tie ↦
            inl (sym (tells_apart versions_exact v x tie))
        | inr rest ↦ inr rest
      ],
      λ h. more ∙ elim h [
        | inl same ↦ or_left _ _ (ap (eq_by_cmp version_cmp v) same ∙ ap is_eq (tied_itself versions_total v))
        | inr rest ↦ or_right _ _ rest
      ],
    )

set_members : (vs : List SemanticVersion) (v : SemanticVersion)
    → (set.contains (by_precedence vs) v ≡ true) ↔ Contains vs v
set_members [] v = (
  λ at. absurd (true≢false (sym at ∙ set.contains-empty version_cmp v)),
  λ at.
      absurd (no_member v at),
)
set_members (x ∷ vs) v =
    let more = one_more vs x v in
    let rest = set_members vs v in (
      λ at. elim (more.0 at) [
        | inl same ↦ subst (Contains (x ∷ vs)) same (first_member x vs)
        | inr old ↦ later_member x v vs (rest.0 old)
      ],
      λ at. more.1 (elim (member_cases x v vs at) [ inl same ↦ inl same | inr later ↦ inr (rest.1 later) ]),
    )

-- lists of the same versions are the same by precedence
pub same_versions : (vs us : List SemanticVersion) → ((v : SemanticVersion) → Contains vs v ↔ Contains us v)
    → by_precedence vs ≡ by_precedence us
same_versions vs us same = set.same_set versions_total versions_exact _ _ (λ v. same_bool _ _
    (λ at. (set_members us v).1 ((same v).0 ((set_members vs v).0 at)))
    (λ at. (set_members vs v).1 ((same v).1 ((set_members us v).0 at))))

pub sorted_members : (vs : List SemanticVersion) (v : SemanticVersion)
    → Contains (in_order (by_precedence vs)) v ↔ Contains vs v
sorted_members vs v =
    let members = set_members vs v in (
      λ at. members.0 (in_set_of versions_total versions_exact (by_precedence vs) v at),
      λ at. in_order_of versions_total versions_exact (by_precedence vs) v (members.1 at),
    )

-- ---- their order

-- what rises among versions of one path rises by precedence
pub below_next : (path : List ℕ) (vs : List SemanticVersion) → AllOf path vs
    → EachToNext (λ u v. version_cmp u v ≡ Less) vs → EachToNext IsBelow vs
below_next path [] fit up = tt
below_next path (v ∷ []) fit up = tt
below_next path (u ∷ v ∷ vs) fit up = (
  below u v (fit u (first_member u (v ∷ vs))) (fit v (later_member u v (v ∷ vs) (first_member v vs))) up.0,
  below_next path (v ∷ vs) (λ x at. fit x (later_member u x (v ∷ vs) at)) up.1,
)
  where
    first_less : (a b : Ordering) → ordering_then a b ≡ Less → (a ≡ Equal → ⊥) → a ≡ Less
    first_less Less b e apart = refl
    first_less Equal b e apart = absurd (apart refl)
    first_less Greater b e apart = cc e

    below : (x y : SemanticVersion) → IsVersionOf path x → IsVersionOf path y → version_cmp x y ≡ Less → IsBelow x y
    below x y fx fy e = first_less (precedence x y) _ e (λ tie.
        let same = precedence-tied (suffix_of path) x y fx fy tie in
        let self : version_cmp x y ≡ Equal = ap (version_cmp x) (sym same) ∙ tied_itself versions_total x in
        let never : Equal ≡ Less = sym self ∙ e in cc never)
