-- Kept groups stay right when one more is kept and when a shelf is added; what a shelf sees stays when a group is
-- added.
use Rattle.std.proofs.Common.{◌≡◌, ◌≤◌, ◌<◌, ◌⊎◌, ◌+◌, ◌∙◌, arith, subst, ℕ, List, [], ◌∷◌, Bool, true, false, cond}
use Rattle.std.proofs.Common.{true≢false, Option, Some, None, is_some, inl, inr, refl, sym, ap}
use Rattle.std.specs.FinMap as map
use Rattle.std.specs.FinSet as set
use Rattle.std.specs.Option.{option_or}
use Rattle.std.specs.Ordering.{eq_by_cmp}
use Rattle.std.proofs.lemmas.Map.Views.{tells_apart}
use Rattle.world.specs.Lines.{in_order}
use Rattle.world.specs.Versions.{named, by_precedence, versions_of}
use Rattle.world.specs.Visible.{versions_among, versions_on}
use Rattle.world.specs.World.{World, text_cmp, group_in, group_of, above, chain, place, seen_at, first_on, view}
use Rattle.world.specs.World.{with_shelf, with_group}
use Rattle.world.proofs.Orders.{texts_total, texts_exact}
use Rattle.world.proofs.Sound.{at_or_before, stands_still, parent_still}
use Rattle.cache.specs.Groups.{Grouping, IsGroupOf, AreGroups}

pub no_groups : (w : World) (groups : Grouping) → groups ≡ map.empty → AreGroups w groups
no_groups w groups none s g at = let never : ◌≡◌ {A = Option (Option (List ℕ))} None (Some g) =
    sym (ap (λ m. map.get m s) none ∙ map.get-empty text_cmp s) ∙ at in cc never

pub one_more : (w : World) (old new : Grouping) (s : List ℕ) (g : Option (List ℕ)) → new ≡ map.insert old s g
    → AreGroups w old → IsGroupOf w s g → AreGroups w new
one_more w old new s g put are is t h at =
    elim (at_or_before texts_total texts_exact old s t g h (sym (ap (λ m. map.get m t) put) ∙ at)) [
      | inl here ↦ (ap (map.contains_key w.shelves) (sym here.0) ∙ is.0, ap (group_of w) (sym here.0) ∙ (is.1 ∙ here.1))
      | inr before ↦ are t h before
    ]

-- one more has room where there were fewer than the most
pub one_more_fits : (old new : Grouping) (s : List ℕ) (g : Option (List ℕ)) (most : ℕ) → new ≡ map.insert old s g
    → map.len old < most → map.len new ≤ most
one_more_fits old new s g most put room =
    elim (map.contains_key old s) as (λ b. map.len new ≡ cond b (map.len old) (map.len old + 1) → map.len new ≤ most) [
      | true ↦ λ e. omega (arith, e, room)
      | false ↦ λ e. omega (arith, e, room)
    ] (ap map.len put ∙ map.len-insert texts_total old s g)

-- the groups that were kept, or none, are right
pub same_or_none : (w : World) (old new : Grouping) → (new ≡ old) ⊎ (new ≡ map.empty) → AreGroups w old
    → AreGroups w new
same_or_none w old new (inl same) are = subst (AreGroups w) (sym same) are
same_or_none w old new (inr none) are = no_groups w new none

-- when a shelf is added, each other shelf has the group that it had
pub groups_still : (w : World) (s : List ℕ) (parent : Option (List ℕ)) (groups : Grouping)
    → map.contains_key w.shelves s ≡ false → AreGroups w groups → AreGroups (with_shelf w s parent) groups
groups_still w s parent groups free are t g at =
    let it = are t g at in
    (stands_still w s parent t it.0, ap group_in (parent_still w s parent free t it.0) ∙ it.1)

-- ---- what each shelf sees stays when a group is added

pub none_there : {X : Type 0} (o : Option X) → is_some o ≡ false → o ≡ None
none_there None e = refl
none_there (Some x) e = absurd (true≢false e)

module _ (w : World) (g : List ℕ) (free : map.contains_key w.shelves g ≡ false) where
  no_group_put : (b : Bool) (o : Option (Option (List ℕ))) → (b ≡ true → o ≡ None)
      → group_in (cond b (Some None) o) ≡ group_in o
  no_group_put true o none = ap group_in (sym (none refl))
  no_group_put false o none = refl

  same_group : (s : List ℕ) → group_of (with_group w g) s ≡ group_of w s
  same_group s =
      ap group_in (map.get-insert texts_total w.shelves g None s)
      ∙ no_group_put (eq_by_cmp text_cmp s g) (map.get w.shelves s)
      (λ same. ap (map.get w.shelves) (tells_apart texts_exact s g same) ∙ none_there (map.get w.shelves g) free)

  on_same : (ss : List (List ℕ)) (p : List ℕ) → versions_on (with_group w g) ss p ≡ versions_on w ss p
  on_same [] p = refl
  on_same (s ∷ ss) p = ap (set.union (versions_among s p (map.entries w.entries))) (on_same ss p)

  pub same_versions : (s p : List ℕ) → versions_of (with_group w g) s p ≡ versions_of w s p
  same_versions s p =
      ap (λ texts. in_order (by_precedence (named (in_order texts))))
      (on_same (chain (with_group w g) s) p ∙ ap (λ o. versions_on w (s ∷ above o) p) (same_group s))

  first_same : (ss : List (List ℕ)) (p v : List ℕ) → first_on (with_group w g) ss p v ≡ first_on w ss p v
  first_same [] p v = refl
  first_same (s ∷ ss) p v = ap (option_or (seen_at (map.get w.entries (place s p v)) s)) (first_same ss p v)

  pub same_view : (s p v : List ℕ) → view (with_group w g) s p v ≡ view w s p v
  same_view s p v = first_same (chain (with_group w g) s) p v ∙ ap (λ o. first_on w (s ∷ above o) p v) (same_group s)
