-- The computed rank goes by class.
use Rattle.std.proofs.Common.{◌≡◌, ◌⊎◌, ℕ, List, [], ◌∷◌, Option, Some, None, refl, inl, inr}
use Rattle.std.specs.Ordering.{nat_cmp, ordering_then}
use Rattle.std.specs.FinMap.{nat_cmp-IsAntisymmetric}
use Rattle.std.specs.declared.cmp.Ordering.{Ordering}
use Rattle.std.specs.declared.cmp.Ordering.TheVariants.{Equal, Greater, Less}
use Rattle.modver.specs.Class.{class_from, stamp_of}
use Rattle.modver.specs.Laws.{RankIsByClass}
use Rattle.modver.specs.Precedence.{precedence}
use Rattle.modver.specs.Rank.{IsAboveByClass, number_of_stamp, rank_of}
use Rattle.modver.specs.SemanticVersion.{SemanticVersion}
use Rattle.modver.proofs.StrictOrders.{precedence_total, turned, turned-back}
use Rattle.modver.proofs.Conditions.{greater-nat, nat_cmp-eq, nat_cmp-gt}
use Rattle.modver.proofs.DotParts.{no-stamp}

then-greater : (r s : Ordering) → ordering_then r s ≡ Greater → (r ≡ Greater) ⊎ ((r ≡ Equal) × (s ≡ Greater))
then-greater Less s h = cc h
then-greater Equal s h = inr (refl, h)
then-greater Greater s h = inl refl

-- the order of rank, from the numbers of the classes and the stamps
abbrev rank : List (List ℕ) → List (List ℕ) → Option (List ℕ) → Option (List ℕ) → Ordering → Ordering
rank xs ys s t r = ordering_then (nat_cmp (rank_of (class_from xs s)) (rank_of (class_from ys t)))
    (ordering_then (nat_cmp (number_of_stamp s) (number_of_stamp t)) r)

-- a version that compares as greater by rank is above the other by class
above-class : (u v : SemanticVersion) (xs ys : List (List ℕ)) (s t : Option (List ℕ)) → s ≡ stamp_of u → t ≡ stamp_of v
    → (xs ≡ [] → s ≡ None) → (ys ≡ [] → t ≡ None)
    → rank xs ys s t (precedence u v) ≡ Greater → IsAboveByClass (class_from xs s) (class_from ys t) u v
above-class u v [] [] None None a b f g h = turned precedence precedence_total u v h
above-class u v [] [] None (Some y) a b f g h = cc (g refl)
above-class u v [] [] (Some x) t a b f g h = cc (f refl)
above-class u v [] (j ∷ ys) s None a b f g h = tt
above-class u v [] (j ∷ ys) s (Some y) a b f g h = tt
above-class u v (i ∷ xs) [] None t a b f g h = cc h
above-class u v (i ∷ xs) [] (Some x) t a b f g h = cc h
above-class u v (i ∷ xs) (j ∷ ys) None None a b f g h = turned precedence precedence_total u v h
above-class u v (i ∷ xs) (j ∷ ys) None (Some y) a b f g h = tt
above-class u v (i ∷ xs) (j ∷ ys) (Some x) None a b f g h = cc h
above-class u v (i ∷ xs) (j ∷ ys) (Some x) (Some y) a b f g h = elim (then-greater _ _ h) [
  | inl later ↦ inl (rw (← a, ← b) (greater-nat _ _ later))
  | inr both ↦ inr (rw (← a, ← b) (nat_cmp-IsAntisymmetric _ _ both.0), turned precedence precedence_total u v both.1)
]

-- a version that is above another by class compares as greater by rank
class-above : (u v : SemanticVersion) (xs ys : List (List ℕ)) (s t : Option (List ℕ)) → s ≡ stamp_of u → t ≡ stamp_of v
    → (xs ≡ [] → s ≡ None) → (ys ≡ [] → t ≡ None)
    → IsAboveByClass (class_from xs s) (class_from ys t) u v → rank xs ys s t (precedence u v) ≡ Greater
class-above u v [] [] None None a b f g h = turned-back precedence precedence_total u v h
class-above u v [] [] None (Some y) a b f g h = cc (g refl)
class-above u v [] [] (Some x) t a b f g h = cc (f refl)
class-above u v [] (j ∷ ys) s None a b f g h = refl
class-above u v [] (j ∷ ys) s (Some y) a b f g h = refl
class-above u v (i ∷ xs) [] None t a b f g h = absurd h
class-above u v (i ∷ xs) [] (Some x) t a b f g h = absurd h
class-above u v (i ∷ xs) (j ∷ ys) None None a b f g h = turned-back precedence precedence_total u v h
class-above u v (i ∷ xs) (j ∷ ys) None (Some y) a b f g h = refl
class-above u v (i ∷ xs) (j ∷ ys) (Some x) None a b f g h = absurd h
class-above u v (i ∷ xs) (j ∷ ys) (Some x) (Some y) a b f g (inl later) =
    rw (nat_cmp-gt (number_of_stamp (Some x)) (number_of_stamp (Some y)) (rw (← a, ← b) at later)) refl
class-above u v (i ∷ xs) (j ∷ ys) (Some x) (Some y) a b f g (inr both) =
    rw (nat_cmp-eq (number_of_stamp (Some x)) (number_of_stamp (Some y)) (rw (← a, ← b) at both.0))
    (turned-back precedence precedence_total u v both.1)

pub rank-by_class : RankIsByClass
rank-by_class u v = (
  λ h. above-class u v u.identifiers v.identifiers (stamp_of u) (stamp_of v) refl refl (no-stamp u) (no-stamp v) h,
  λ h. class-above u v u.identifiers v.identifiers (stamp_of u) (stamp_of v) refl refl (no-stamp u) (no-stamp v) h,
)
