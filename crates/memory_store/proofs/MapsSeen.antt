-- The versions and the paths that nested maps of texts have.
use Rattle.std.proofs.Common.{◌≡◌, ℕ, List, [], ◌∷◌, Bool, true, false, cond, refl, ◌∙◌, sym, ap, Some, None, Option}
use Rattle.std.proofs.Common.{Ok, Err, OnOk, OnErr, length, inl, inr, ◌⊎◌, true≢false}
use Rattle.std.specs.Prelude.{is_some, unwrap_or, option_and_then, Result}
use Rattle.std.specs.Ordering.{eq_by_cmp, is_eq}
use Rattle.std.specs.Cmp.{tied_itself}
use Rattle.std.specs.FinMap as map
use Rattle.std.specs.FinSet as set
use Rattle.world.specs.declared.entry.Entry.{Entry}
use Rattle.world.specs.Visible.{versions_among, paths_among}
use Rattle.world.specs.World.{text_cmp, place}
use Rattle.world.specs.FinMaps.{get_under, map_at, with_texts}
use Rattle.world.specs.Lines.{in_order}
use Rattle.world.proofs.InOrder.{same_bool, in_order-keys, in_order-nothing}
use Rattle.world.proofs.Orders.{texts_total, texts_exact, get_put}
use Rattle.world.proofs.MapsNested.{get_put_under}
use Rattle.world.proofs.MoreTexts.{more_keys, no_more}
use Rattle.world.proofs.Seen.{contains_among, path_among}
use Rattle.memory_store.specs.NestedMaps.{Nested, EachHasVersion, by_place, put_at}
use Rattle.memory_store.proofs.MapsPlaces.{get_by_place}

-- ---- versions

module _ {A B C : Type 0} (f : A → Option B) (g : B → Option C) where
  in_turn : (o : Option A) → option_and_then (λ a. option_and_then g (f a)) o ≡ option_and_then g (option_and_then f o)
  in_turn None = refl
  in_turn (Some a) = refl

module _ (m : Nested) (s : List ℕ) where
  at_place : (p v : List ℕ)
      → map.get (by_place m) (place s p v) ≡ option_and_then (λ versions. map.get versions v) (get_under m s p)
  at_place p v = get_by_place m (place s p v)
      ∙ in_turn (λ paths. map.get paths p) (λ versions. map.get versions v) (map.get m s)

  has_version : (p v : List ℕ)
      → set.contains (versions_among s p (map.entries (by_place m))) v
      ≡ is_some (option_and_then (λ versions. map.get versions v) (get_under m s p))
  has_version p v = contains_among s p v (map.entries (by_place m))
      ∙ ap is_some (sym (map.get-entries (by_place m) (place s p v)) ∙ at_place p v)

  pub no_versions : (p : List ℕ) → None ≡ get_under m s p
      → in_order (versions_among s p (map.entries (by_place m))) ≡ []
  no_versions p none = in_order-nothing texts_total texts_exact _
      (λ v. has_version p v ∙ ap (λ o. is_some (option_and_then (λ versions. map.get versions v) o)) (sym none))

  pub the_versions : (p : List ℕ) (versions : map.FinMap text_cmp Entry) → Some versions ≡ get_under m s p
      → in_order (versions_among s p (map.entries (by_place m))) ≡ map.keys versions
  the_versions p versions found =
      in_order-keys texts_total texts_exact _ versions
      (λ v. has_version p v ∙ ap (λ o. is_some (option_and_then (λ versions. map.get versions v) o)) (sym found))

-- ---- paths

some_before : {A B : Type 0} (f : A → Option B) (o : Option A) → is_some (option_and_then f o) ≡ true → is_some o ≡ true
some_before f None e = e
some_before f (Some a) e = refl

-- a map that is not empty has something
has_some : (versions : map.FinMap text_cmp Entry) (es : List (List ℕ × Entry)) → map.entries versions ≡ es
    → (map.len versions ≡ 0 → ⊥) → (v : List ℕ) × (is_some (map.get versions v) ≡ true)
has_some versions [] is filled = absurd (filled (map.len-entries versions ∙ ap length is))
has_some versions (e ∷ es) is filled = (
  e.0,
  ap is_some (map.get-entries versions e.0 ∙ ap (map.find text_cmp e.0) is
      ∙ ap (λ r. cond (is_eq r) (Some e.1) (map.find text_cmp e.0 es)) (tied_itself texts_total e.0)),
)

module _ (m : Nested) (s : List ℕ) (filled : EachHasVersion m) where
  is_filled : (p : List ℕ) (o : Option (map.FinMap text_cmp Entry)) → get_under m s p ≡ o → is_some o ≡ true
      → (v : List ℕ) × (is_some (option_and_then (λ versions. map.get versions v) o) ≡ true)
  is_filled p None at e = absurd (true≢false (sym e))
  is_filled p (Some versions) at e = has_some versions (map.entries versions) refl (filled s p versions at)

  has_path : (p : List ℕ) → set.contains (paths_among s (map.entries (by_place m))) p ≡ is_some (get_under m s p)
  has_path p =
      let among = path_among s p (map.entries (by_place m)) in
      let found = λ (v : List ℕ). ap is_some (sym (map.get-entries (by_place m) (place s p v)) ∙ at_place m s p v) in
      same_bool _ _
      (λ at. let one = among.0 at in
      some_before (λ versions. map.get versions one.0) (get_under m s p) (sym (found one.0) ∙ one.1))
      (λ at. let one = is_filled p (get_under m s p) refl at in among.1 (one.0, found one.0 ∙ one.1))

  pub no_paths : (old : set.FinSet text_cmp) → None ≡ map.get m s
      → old ≡ set.union old (paths_among s (map.entries (by_place m)))
  no_paths old none = no_more old _
      (λ p. has_path p ∙ ap (λ o. is_some (option_and_then (λ paths. map.get paths p) o)) (sym none))

  pub more_paths : (old : set.FinSet text_cmp) (paths : map.FinMap text_cmp (map.FinMap text_cmp Entry))
      → Some paths ≡ map.get m s
      → with_texts old (map.keys paths) ≡ set.union old (paths_among s (map.entries (by_place m)))
  more_paths old paths found =
      more_keys old _ paths (λ p. has_path p
      ∙ ap (λ o. is_some (option_and_then (λ paths. map.get paths p) o)) (sym found))

-- ---- no path is without a version

pub none_without : EachHasVersion map.empty
none_without s p versions e none =
    true≢false (sym (ap is_some (sym (ap (option_and_then (λ paths. map.get paths p)) (map.get-empty text_cmp s)) ∙ e)))

either : {A : Type 0} (a b : Bool) (new old x : A) → cond a (cond b new old) old ≡ x → (new ≡ x) ⊎ (old ≡ x)
either true true new old x e = inl e
either true false new old x e = inr e
either false b new old x e = inr e

-- a map is not empty once something was put there
not_empty : (versions : map.FinMap text_cmp Entry) (v : List ℕ) (e : Entry) → map.len (map.insert versions v e) ≡ 0 → ⊥
not_empty versions v e none =
    true≢false (ap is_some (sym (get_put texts_total versions v e)
    ∙ ap (λ m. map.get m v) (map.empty_of_len (map.insert versions v e) none) ∙ map.get-empty text_cmp v))

pub each_after : (m : Nested) (s p v : List ℕ) (e : Entry) → EachHasVersion m → EachHasVersion (put_at m s p v e)
each_after m s p v e each t q versions at =
    let inner = map.insert (map_at (map_at m s) p) v e in
    elim (either (eq_by_cmp text_cmp t s) (eq_by_cmp text_cmp q p) (Some inner) (get_under m t q) (Some versions)
    (sym (get_put_under m s p inner t q) ∙ at)) [
      | inl new ↦ λ none. not_empty (map_at (map_at m s) p) v e
          (ap (λ (o : Option (map.FinMap text_cmp Entry)). map.len (unwrap_or o map.empty)) new ∙ none)
      | inr old ↦ each t q versions old
    ]

-- after an insertion, whether it was made or not
pub after_either : {A E Made Not : Type 0} (n : Nested) (r : Result A E) → OnOk r Made → OnErr r Not
    → (Made → EachHasVersion n) → (Not → EachHasVersion n) → EachHasVersion n
after_either n (Ok x) made not_made f g = f made
after_either n (Err x) made not_made f g = g not_made
