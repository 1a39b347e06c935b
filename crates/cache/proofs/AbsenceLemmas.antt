-- Kept absences stay right when one more is kept, when a path is forgotten, and when the world grows.
use Rattle.std.proofs.Common.{◌≡◌, ◌∙◌, ◌⊎◌, ◌+◌, ◌≤◌, ℕ, List, [], ◌∷◌, Bool, true, false, cond, Option, Some, None}
use Rattle.std.proofs.Common.{length, inl, inr, refl, sym, ap, subst, arith, Contains}
use Rattle.std.specs.Prelude.{bytes_eq, unwrap_or, ◌||◌, IsTrue}
use Rattle.std.specs.Ordering.{eq_by_cmp, is_eq}
use Rattle.std.specs.Cmp.{tied_itself}
use Rattle.std.specs.FinMap as map
use Rattle.std.specs.FinSet as set
use Rattle.std.proofs.lemmas.Bool.{true≢false, false_from_ne_true}
use Rattle.std.proofs.lemmas.Map.Views.{tells_apart}
use Rattle.lru.proofs.Splits.{Contains-nil, Contains-head, Contains-tail}
use Rattle.modver.specs.SemanticVersion.{SemanticVersion, version_text}
use Rattle.world.specs.declared.entry.Entry.{Entry}
use Rattle.world.specs.Latest.{highest, latest_by, latest_of}
use Rattle.world.specs.Versions.{versions_of}
use Rattle.world.specs.World.{World, IsWorld, text_cmp, place, view, with_entry, with_group}
use Rattle.world.proofs.Orders.{texts_total, texts_exact, text_same}
use Rattle.world.proofs.OtherPaths.{versions_still}
use Rattle.cache.specs.Absences.{Lacking, shelves_at, AreAbsent, HasPairs}
use Rattle.cache.proofs.GroupLemmas.{same_versions}
use Rattle.cache.proofs.ListLemmas.{none_seen}

-- whether a shelf is kept with a path
abbrev pub lacks : Lacking → List ℕ → List ℕ → Bool
lacks m p s = set.contains (shelves_at m p) s

-- ---- what is kept with each path: of an empty map, after one is removed, and after one is put

pub none_lacks : (m : Lacking) → m ≡ map.empty → (p s : List ℕ) → lacks m p s ≡ false
none_lacks m none p s =
    ap (λ x. lacks x p s) none
    ∙ ap (λ (o : Option (set.FinSet text_cmp)). set.contains (unwrap_or o set.empty) s) (map.get-empty text_cmp p)
    ∙ set.contains-empty text_cmp s

nothing : (m : Lacking) → m ≡ map.empty → (p s : List ℕ) → lacks m p s ≡ true → ⊥
nothing m none p s at = true≢false (sym at ∙ none_lacks m none p s)

same_text : (t u : List ℕ) → t ≡ u → eq_by_cmp text_cmp t u ≡ true
same_text t u same = ap (λ x. eq_by_cmp text_cmp t x) (sym same) ∙ ap is_eq (tied_itself texts_total t)

-- what is kept after a path is removed was kept before with another path
pub left : (m : Lacking) (k p s : List ℕ) → lacks (map.remove m k) p s ≡ true
    → (bytes_eq p k ≡ false) × (lacks m p s ≡ true)
left m k p s at =
    elim (eq_by_cmp text_cmp p k) as
    (λ b. eq_by_cmp text_cmp p k ≡ b → set.contains (unwrap_or (cond b None (map.get m p)) set.empty) s ≡ true
    → (bytes_eq p k ≡ false) × (lacks m p s ≡ true)) [
      | true ↦ λ _ never. absurd (true≢false (sym never ∙ set.contains-empty text_cmp s))
      | false ↦ λ apart there.
          (false_from_ne_true _ (λ same. true≢false (sym (same_text p k (text_same p k same)) ∙ apart)), there)
    ] refl (ap (λ o. set.contains (unwrap_or o set.empty) s) (sym (map.get-remove texts_total m k p)) ∙ at)

either : (a b : Bool) → (a || b) ≡ true → (a ≡ true) ⊎ (b ≡ true)
either true b is = inl refl
either false b is = inr is

module _ (m : Lacking) (k s : List ℕ) where
  -- with a shelf put to those of a path
  abbrev pub with_shelf_at : Lacking
  with_shelf_at = map.insert (map.remove m k) k (set.insert (shelves_at m k) s)

  -- what is kept then is that shelf with that path, or was kept before
  pub put_or_before : (p t : List ℕ) → lacks with_shelf_at p t ≡ true → ((p ≡ k) × (t ≡ s)) ⊎ (lacks m p t ≡ true)
  put_or_before p t at =
      elim (eq_by_cmp text_cmp p k) as (λ b. eq_by_cmp text_cmp p k ≡ b
      → set.contains (unwrap_or (cond b (Some (set.insert (shelves_at m k) s)) (map.get (map.remove m k) p)) set.empty)
      t ≡ true → ((p ≡ k) × (t ≡ s)) ⊎ (lacks m p t ≡ true)) [
        | true ↦ λ same has.
            let path = tells_apart texts_exact p k same in
            elim (either (eq_by_cmp text_cmp t s) (lacks m k t)
            (sym (set.contains-insert texts_total (shelves_at m k) s t) ∙ has)) [
              | inl shelf ↦ inl (path, tells_apart texts_exact t s shelf)
              | inr before ↦ inr (ap (λ x. lacks m x t) path ∙ before)
            ]
        | false ↦ λ _ has. inr (left m k p t has).1
      ] refl (ap (λ o. set.contains (unwrap_or o set.empty) t)
      (sym (map.get-insert texts_total (map.remove m k) k (set.insert (shelves_at m k) s) p)) ∙ at)

-- ---- none, and one more

pub none_absent : (w : World) (m : Lacking) → m ≡ map.empty → AreAbsent w m
none_absent w m none p s at = absurd (nothing m none p s at)

pub one_absent : (w : World) (m after : Lacking) (k s : List ℕ) → after ≡ with_shelf_at m k s → AreAbsent w m
    → versions_of w s k ≡ [] → AreAbsent w after
one_absent w m after k s put are is = subst (AreAbsent w) (sym put) (λ p t at. elim (put_or_before m k s p t at) [
  | inl here ↦ ap (λ x. versions_of w x p) here.1 ∙ (ap (versions_of w s) here.0 ∙ is)
  | inr before ↦ are p t before
])

-- those that were kept, or none
pub same_or_none : (w : World) (old new : Lacking) → (new ≡ old) ⊎ (new ≡ map.empty) → AreAbsent w old → AreAbsent w new
same_or_none w old new (inl same) are = subst (AreAbsent w) (sym same) are
same_or_none w old new (inr none) are = none_absent w new none

pub no_pairs : (m : Lacking) → m ≡ map.empty → (n : ℕ) → HasPairs m n
no_pairs m none n = ([], omega arith, λ p s at. absurd (nothing m none p s at))

pub one_more_pair : (m after : Lacking) (k s : List ℕ) (n : ℕ) → after ≡ with_shelf_at m k s → HasPairs m n
    → HasPairs after (n + 1)
one_more_pair m after k s n put has = subst (λ x. HasPairs x (n + 1)) (sym put) (
  (k, s) ∷ has.0,
  (let few = has.1 in omega (arith, few)),
  λ p t at. elim (put_or_before m k s p t at) [
    | inl here ↦ subst (λ x. Contains ((k, s) ∷ has.0) (x, t)) (sym here.0)
        (subst (λ x. Contains ((k, s) ∷ has.0) (k, x)) (sym here.1) (Contains-head (k, s) has.0))
    | inr before ↦ Contains-tail (k, s) has.0 (p, t) (has.2 p t before)
  ],
)

-- ---- what follows from one that is found

pub no_latest : (w : World) (s p : List ℕ) → versions_of w s p ≡ [] → None ≡ latest_of w s p
no_latest w s p none = sym (ap (λ vs. latest_by w s p (highest vs)) none)

pub none_viewed : (w : World) → IsWorld w → (s p t : List ℕ) → versions_of w s p ≡ [] → view w s p t ≡ None
none_viewed w is s p t none = none_seen w is s p t [] (sym none) (λ v at. absurd (Contains-nil v at))

-- ---- a path is forgotten, and the world grows

pub absent_still : (w : World) (s k v : List ℕ) (e : Entry) (m after : Lacking) → after ≡ map.remove m k → AreAbsent w m
    → AreAbsent (with_entry w (place s k v) e) after
absent_still w s k v e m after removed are = subst (AreAbsent (with_entry w (place s k v) e)) (sym removed) (λ p t at.
    let it = left m k p t at in
    versions_still w s k v e p it.0 t ∙ are p t it.1)

pub pairs_left : (m after : Lacking) (k : List ℕ) (n : ℕ) → after ≡ map.remove m k → HasPairs m n → HasPairs after n
pairs_left m after k n removed has =
    subst (λ x. HasPairs x n) (sym removed) (has.0, has.1, λ p t at. has.2 p t (left m k p t at).1)

-- absences stay right when a group is added
pub absences_still : (w : World) (g : List ℕ) → map.contains_key w.shelves g ≡ false → (m : Lacking) → AreAbsent w m
    → AreAbsent (with_group w g) m
absences_still w g free m are p s at = same_versions w g free s p ∙ are p s at
