-- How many versions of a path stand on a shelf.
use Rattle.std.proofs.Common.{◌≡◌, ℕ, List, [], ◌∷◌, suc, Bool, true, false, cond, refl, ◌∙◌, sym, ap, subst, Some}
use Rattle.std.proofs.Common.{None, Option, length}
use Rattle.std.specs.Prelude.{map as each, bytes_eq, ◌&&◌, unwrap_or, option_and_then}
use Rattle.std.specs.Ordering.{eq_by_cmp, is_lt, ordering_then}
use Rattle.std.specs.Cmp.{tied_itself}
use Rattle.std.specs.FinMap as map
use Rattle.std.specs.FinMap.Entries.{below_all}
use Rattle.std.proofs.lemmas.Map.Views.{tells_apart}
use Rattle.std.proofs.lemmas.Map.Text.{is_eq-slice_cmp}
use lib.Dec.{T}
use Rattle.world.specs.declared.entry.Place.{Place}
use Rattle.world.specs.declared.entry.Entry.{Entry}
use Rattle.world.specs.World.{text_cmp, place_cmp, place}
use Rattle.world.specs.FinMaps.{get_under, map_at}
use Rattle.world.proofs.Orders.{texts_total, texts_exact, places_total, places_exact}
use Rattle.world.proofs.MapsNested.{get_map_at}
use Rattle.memory_store.specs.NestedMaps.{Nested, placed, by_place}
use Rattle.memory_store.proofs.MapsPlaces.{get_at, get_by_place, find_placed, under_or_empty}

-- ---- places of one path on one shelf are in the order of their versions

in_order : (s p x y : List ℕ) → place_cmp (place s p x) (place s p y) ≡ text_cmp x y
in_order s p x y = ap (λ r. ordering_then r (ordering_then (text_cmp p p) (text_cmp x y))) (tied_itself texts_total s)
    ∙ ap (λ r. ordering_then r (text_cmp x y)) (tied_itself texts_total p)

below_in_order : (s p x : List ℕ) (es : List (List ℕ × Entry))
    → below_all place_cmp (place s p x) (each (λ v. (place s p v.0, v.1)) es) ≡ below_all text_cmp x es
below_in_order s p x [] = refl
below_in_order s p x (e ∷ es) =
    ap (λ r. is_lt r && below_all place_cmp (place s p x) (each (λ v. (place s p v.0, v.1)) es)) (in_order s p x e.0)
    ∙ ap (λ b. is_lt (text_cmp x e.0) && b) (below_in_order s p x es)

sorted_in_order : (s p : List ℕ) (es : List (List ℕ × Entry))
    → map.is_sorted place_cmp (each (λ v. (place s p v.0, v.1)) es) ≡ map.is_sorted text_cmp es
sorted_in_order s p [] = refl
sorted_in_order s p (e ∷ es) =
    ap (λ b. b && map.is_sorted place_cmp (each (λ v. (place s p v.0, v.1)) es)) (below_in_order s p e.0 es)
    ∙ ap (λ b. below_all text_cmp e.0 es && b) (sorted_in_order s p es)

length_listed : (s p : List ℕ) (es : List (List ℕ × Entry))
    → length (each {B = Place × Entry} (λ v. (place s p v.0, v.1)) es) ≡ length es
length_listed s p [] = refl
length_listed s p (e ∷ es) = ap suc (length_listed s p es)

module _ (s p : List ℕ) (versions : map.FinMap text_cmp Entry) where
  sorted_placed : T (map.is_sorted place_cmp (placed s p versions))
  sorted_placed = subst T (sym (sorted_in_order s p (map.entries versions))) (map.entries_sorted versions)

  here : map.FinMap place_cmp Entry
  here = map.from_sorted (placed s p versions)

  len_here : map.len here ≡ map.len versions
  unfolding here
  len_here = map.len-entries here ∙ ap length (map.entries-from_sorted place_cmp (placed s p versions) sorted_placed)
      ∙ length_listed s p (map.entries versions) ∙ sym (map.len-entries versions)

  get_here : (q : Place) → map.get here q
      ≡ cond (eq_by_cmp text_cmp q.shelf s) (cond (eq_by_cmp text_cmp q.path p) (map.get versions q.version) None) None
  unfolding here
  get_here q = map.get-from_sorted place_cmp (placed s p versions) q sorted_placed ∙ find_placed s p versions q

-- ---- the entries of one path on one shelf

-- whether a place is of the path on the shelf
abbrev pub is_of : List ℕ → List ℕ → Place → Bool
is_of s p q = bytes_eq q.shelf s && bytes_eq q.path p

both_tests : {X : Type 0} (a b c d : Bool) (found there : Option X) → c ≡ a → d ≡ b
    → (a ≡ true → b ≡ true → found ≡ there) → cond (c && d) found None ≡ cond a (cond b there None) None
both_tests true true c d found there e f same = ap (λ x. cond (x && d) found None) e ∙ ap (λ x. cond x found None) f
    ∙ same refl refl
both_tests true false c d found there e f same = ap (λ x. cond (x && d) found None) e ∙ ap (λ x. cond x found None) f
both_tests false b c d found there e f same = ap (λ x. cond (x && d) found None) e

module _ (m : Nested) (s p : List ℕ) where
  versions_at : map.FinMap text_cmp Entry
  versions_at = map_at (map_at m s) p

  get_of : (q : Place) → eq_by_cmp text_cmp q.shelf s ≡ true → eq_by_cmp text_cmp q.path p ≡ true
      → get_at m q ≡ map.get versions_at q.version
  unfolding versions_at
  get_of q shelf path =
      ap (λ t. option_and_then (λ ps. get_under ps q.path q.version) (map.get m t))
      (tells_apart texts_exact q.shelf s shelf)
      ∙ sym (under_or_empty (map.get m s) q.path q.version)
      ∙ ap (λ t. get_under (map_at m s) t q.version) (tells_apart texts_exact q.path p path)
      ∙ sym (get_map_at (map_at m s) p q.version)

  same_here : map.retain_keys (by_place m) (is_of s p) ≡ here s p versions_at
  same_here = map.same_map places_total places_exact _ _ (λ q.
      map.get-retain_keys (by_place m) (is_of s p) q (λ x e. ap (is_of s p) (sym (places_exact q x e)))
      ∙ ap (λ o. cond (is_of s p q) o None) (get_by_place m q)
      ∙ both_tests (eq_by_cmp text_cmp q.shelf s) (eq_by_cmp text_cmp q.path p) (bytes_eq q.shelf s) (bytes_eq q.path p)
      (get_at m q) (map.get versions_at q.version)
      (sym (is_eq-slice_cmp q.shelf s)) (sym (is_eq-slice_cmp q.path p)) (get_of q)
      ∙ sym (get_here s p versions_at q))

  at_two : unwrap_or (get_under m s p) map.empty ≡ map_at (map_at m s) p
  at_two = ap (λ o. unwrap_or o map.empty) (sym (get_map_at m s p))

  -- the count of a path on a shelf is that of its map
  pub count_at : map.len (map.retain_keys (by_place m) (is_of s p)) ≡ map.len (map_at (map_at m s) p)
  unfolding versions_at
  count_at = ap map.len same_here ∙ len_here s p versions_at

  -- the steps of a count
  pub none_at : None ≡ get_under m s p → 0 ≡ map.len (map.retain_keys (by_place m) (is_of s p))
  none_at e = sym (map.len-empty text_cmp Entry)
      ∙ ap (λ (o : Option (map.FinMap text_cmp Entry)). map.len (unwrap_or o map.empty)) e ∙ ap map.len at_two
      ∙ sym count_at

  pub some_at : (versions : map.FinMap text_cmp Entry) → Some versions ≡ get_under m s p
      → map.len versions ≡ map.len (map.retain_keys (by_place m) (is_of s p))
  some_at versions e = ap (λ (o : Option (map.FinMap text_cmp Entry)). map.len (unwrap_or o map.empty)) e
      ∙ ap map.len at_two ∙ sym count_at
