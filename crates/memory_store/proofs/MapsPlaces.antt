-- What nested maps of texts have at each place.
use Rattle.std.proofs.Common.{◌≡◌, ℕ, List, [], ◌∷◌, ◌++◌, Bool, true, false, cond, refl, ◌∙◌, sym, ap, subst, Some}
use Rattle.std.proofs.Common.{None, Option}
use Rattle.std.specs.Prelude.{map as each, unwrap_or, option_and_then}
use Rattle.std.specs.Option.{option_or}
use Rattle.std.specs.List.{flat_map}
use Rattle.std.specs.Ordering.{eq_by_cmp, is_eq, is_lt, ordering_then}
use Rattle.std.specs.declared.cmp.Ordering.{Ordering}
use Rattle.std.specs.declared.cmp.Ordering.TheVariants.{Less, Equal, Greater}
use Rattle.std.specs.Cmp.{IsTotalOrder}
use Rattle.std.specs.FinMap as map
use Rattle.std.specs.FinMap.Entries.{below_all}
use Rattle.std.proofs.lemmas.Map.Views.{tells_apart}
use lib.Dec.{T}
use Rattle.world.specs.declared.entry.Place.{Place}
use Rattle.world.specs.declared.entry.Entry.{Entry}
use Rattle.world.specs.World.{text_cmp, place_cmp, place}
use Rattle.world.specs.FinMaps.{get_under, map_at, put_under}
use Rattle.world.proofs.InOrder.{first, second}
use Rattle.world.proofs.Orders.{texts_total, texts_exact, places_total, places_exact}
use Rattle.world.proofs.Ties.{or_none, neither, is_apart, is_tied}
use Rattle.world.proofs.MapsNested.{get_put_under}
use Rattle.memory_store.specs.NestedMaps.{Nested, placed, placed_on, by_place, put_at}

-- ---- lists of entries, one after another

module _ {K X : Type 0} (R : K → K → Ordering) (q : K) where
  find_either : (b : Bool) (x : X) (found rest : Option X)
      → cond b (Some x) (option_or found rest) ≡ option_or (cond b (Some x) found) rest
  find_either true x found rest = refl
  find_either false x found rest = refl

  find_append : (es fs : List (K × X)) → map.find R q (es ++ fs) ≡ option_or (map.find R q es) (map.find R q fs)
  find_append [] fs = refl
  find_append (e ∷ es) fs = ap (cond (eq_by_cmp R q e.0) (Some e.1)) (find_append es fs)
      ∙ find_either (eq_by_cmp R q e.0) e.1 (map.find R q es) (map.find R q fs)

-- no later key ties with what ties with the first
module _ {K X : Type 0} {R : K → K → Ordering} (o : IsTotalOrder R) (q k : K) (tied : R q k ≡ Equal) where
  gone_after : (es : List (K × X)) → T (below_all R k es) → map.find R q es ≡ None
  gone_after [] h = refl
  gone_after (e ∷ es) h =
      ap (λ b. cond b (Some e.1) (map.find R q es))
      (is_apart (R q e.0) (subst (λ r. T (is_lt r)) (sym (o.congr q k e.0 tied)) (first _ _ h)))
      ∙ gone_after es (second _ _ h)

-- Blocks of entries, one for each key of a map: where the block of a key holds q only under the key that ties with a,
-- q is found in the block of a.
module _ {A Y K X : Type 0} {R : A → A → Ordering} (o : IsTotalOrder R) (S : K → K → Ordering)
    (block : A × Y → List (K × X)) (inner : Y → Option X) (q : K) (a : A)
    (in_block : (e : A × Y) → map.find S q (block e) ≡ cond (eq_by_cmp R a e.0) (inner e.1) None) where
  pub find_blocks : (es : List (A × Y)) → T (map.is_sorted R es)
      → map.find S q (flat_map block es) ≡ option_and_then inner (map.find R a es)
  find_blocks [] h = refl
  find_blocks (e ∷ es) h =
      let rest = find_blocks es (second _ _ h) in
      find_append S q (block e) (flat_map block es)
      ∙ ap (λ f. option_or f (map.find S q (flat_map block es))) (in_block e)
      ∙ elim (eq_by_cmp R a e.0)
      as (λ b. eq_by_cmp R a e.0 ≡ b
      → option_or (cond b (inner e.1) None) (map.find S q (flat_map block es))
      ≡ option_and_then inner (cond b (Some e.1) (map.find R a es))) [
        | true ↦ λ same. ap (option_or (inner e.1))
            (rest ∙ ap (option_and_then inner) (gone_after o a e.0 (is_tied _ same) es (first _ _ h)))
            ∙ or_none (inner e.1)
        | false ↦ λ _. rest
      ] refl

-- ---- places

-- one place against another, field by field
by_fields : {X : Type 0} (x y z : Ordering) (v : X) (rest found : Option X)
    → rest ≡ cond (is_eq x) (cond (is_eq y) found None) None
    → cond (is_eq (ordering_then x (ordering_then y z))) (Some v) rest
    ≡ cond (is_eq x) (cond (is_eq y) (cond (is_eq z) (Some v) found) None) None
by_fields Less y z v rest found e = e
by_fields Greater y z v rest found e = e
by_fields Equal Less z v rest found e = e
by_fields Equal Greater z v rest found e = e
by_fields Equal Equal z v rest found e = ap (cond (is_eq z) (Some v)) e

find_listed : (s p : List ℕ) (q : Place) (es : List (List ℕ × Entry))
    → map.find place_cmp q (each (λ v. (place s p v.0, v.1)) es)
    ≡ cond (eq_by_cmp text_cmp q.shelf s) (cond (eq_by_cmp text_cmp q.path p) (map.find text_cmp q.version es) None)
    None
find_listed s p q [] = sym
    (ap (λ o. cond (eq_by_cmp text_cmp q.shelf s) o None) (neither (eq_by_cmp text_cmp q.path p))
    ∙ neither (eq_by_cmp text_cmp q.shelf s))
find_listed s p q (e ∷ es) =
    by_fields (text_cmp q.shelf s) (text_cmp q.path p) (text_cmp q.version e.0) e.1 _ (map.find text_cmp q.version es)
    (find_listed s p q es)

-- what stands at a place of a path on a shelf
pub find_placed : (s p : List ℕ) (versions : map.FinMap text_cmp Entry) (q : Place)
    → map.find place_cmp q (placed s p versions)
    ≡ cond (eq_by_cmp text_cmp q.shelf s) (cond (eq_by_cmp text_cmp q.path p) (map.get versions q.version) None)
    None
find_placed s p versions q = find_listed s p q (map.entries versions)
    ∙ ap (λ o. cond (eq_by_cmp text_cmp q.shelf s) (cond (eq_by_cmp text_cmp q.path p) o None) None)
    (sym (map.get-entries versions q.version))

swapped : {X : Type 0} (a b : Bool) (o : Option X) → cond a (cond b o None) None ≡ cond b (cond a o None) None
swapped true true o = refl
swapped true false o = refl
swapped false true o = refl
swapped false false o = refl

pulled : {X Y : Type 0} (b : Bool) (f : Y → Option X) (o : Option Y)
    → option_and_then (λ y. cond b (f y) None) o ≡ cond b (option_and_then f o) None
pulled true f o = refl
pulled false f None = refl
pulled false f (Some y) = refl

find_placed_on : (s : List ℕ) (paths : map.FinMap text_cmp (map.FinMap text_cmp Entry)) (q : Place)
    → map.find place_cmp q (placed_on s paths)
    ≡ cond (eq_by_cmp text_cmp q.shelf s) (get_under paths q.path q.version) None
find_placed_on s paths q =
    let here = eq_by_cmp text_cmp q.shelf s in
    find_blocks texts_total place_cmp (λ p. placed s p.0 p.1) (λ versions. cond here (map.get versions q.version) None)
    q q.path
    (λ e. find_placed s e.0 e.1 q ∙ swapped here (eq_by_cmp text_cmp q.path e.0) (map.get e.1 q.version))
    (map.entries paths) (map.entries_sorted paths)
    ∙ pulled here (λ versions. map.get versions q.version) (map.find text_cmp q.path (map.entries paths))
    ∙ ap (λ o. cond here (option_and_then (λ versions. map.get versions q.version) o) None)
    (sym (map.get-entries paths q.path))

-- what a shelf, a path and a version lead to
abbrev pub get_at : Nested → Place → Option Entry
get_at m q = option_and_then (λ paths. get_under paths q.path q.version) (map.get m q.shelf)

-- each place has what its fields lead to
pub get_by_place : (m : Nested) (q : Place) → map.get (by_place m) q ≡ get_at m q
get_by_place m q =
    map.get-from_entries places_total _ q
    ∙ find_blocks texts_total place_cmp (λ s. placed_on s.0 s.1) (λ paths. get_under paths q.path q.version) q q.shelf
    (λ e. find_placed_on e.0 e.1 q) (map.entries m) (map.entries_sorted m)
    ∙ ap (option_and_then (λ paths. get_under paths q.path q.version)) (sym (map.get-entries m q.shelf))

-- the steps of a lookup
module _ (m : Nested) (s p v : List ℕ) where
  pub nothing_at : None ≡ map.get m s → None ≡ map.get (by_place m) (place s p v)
  nothing_at e = ap (option_and_then (λ paths. get_under paths p v)) e ∙ sym (get_by_place m (place s p v))

  pub something_at : (paths : map.FinMap text_cmp (map.FinMap text_cmp Entry)) → Some paths ≡ map.get m s
      → get_under paths p v ≡ map.get (by_place m) (place s p v)
  something_at paths e = ap (option_and_then (λ paths. get_under paths p v)) e ∙ sym (get_by_place m (place s p v))

pub by_place-empty : by_place map.empty ≡ map.empty
by_place-empty = map.same_map places_total places_exact _ _
    (λ q. get_by_place map.empty q
    ∙ ap (option_and_then (λ paths. get_under paths q.path q.version)) (map.get-empty text_cmp q.shelf)
    ∙ sym (map.get-empty place_cmp q))

-- ---- one more entry

one_place : {X : Type 0} (x y z : Ordering) (here elsewhere : X)
    → cond (is_eq (ordering_then x (ordering_then y z))) here elsewhere
    ≡ cond (is_eq x) (cond (is_eq y) (cond (is_eq z) here elsewhere) elsewhere) elsewhere
one_place Less y z here elsewhere = refl
one_place Greater y z here elsewhere = refl
one_place Equal Less z here elsewhere = refl
one_place Equal Greater z here elsewhere = refl
one_place Equal Equal z here elsewhere = refl

under_nothing : (p v : List ℕ) → get_under {X = Entry} map.empty p v ≡ None
under_nothing p v = ap (option_and_then (λ versions. map.get versions v)) (map.get-empty text_cmp p)

pub under_or_empty : (o : Option (map.FinMap text_cmp (map.FinMap text_cmp Entry))) (p v : List ℕ)
    → get_under (unwrap_or o map.empty) p v ≡ option_and_then (λ paths. get_under paths p v) o
under_or_empty None p v = under_nothing p v
under_or_empty (Some paths) p v = refl

-- after an entry was put at s, p and v, a place has that entry if its three fields tie with these, and what it had
-- otherwise
get_put_at : (m : Nested) (s p v : List ℕ) (e : Entry) (q : Place)
    → get_at (put_at m s p v e) q
    ≡ cond (eq_by_cmp text_cmp q.shelf s)
    (cond (eq_by_cmp text_cmp q.path p) (cond (eq_by_cmp text_cmp q.version v) (Some e) (get_at m q)) (get_at m q))
    (get_at m q)
get_put_at m s p v e q =
    let paths = put_under (map_at m s) p v e in
    ap (option_and_then (λ ps. get_under ps q.path q.version)) (map.get-insert texts_total m s paths q.shelf)
    ∙ elim (eq_by_cmp text_cmp q.shelf s) as (λ b. eq_by_cmp text_cmp q.shelf s ≡ b
    → option_and_then (λ ps. get_under ps q.path q.version) (cond b (Some paths) (map.get m q.shelf))
    ≡ cond b (cond (eq_by_cmp text_cmp q.path p) (cond (eq_by_cmp text_cmp q.version v) (Some e) (get_at m q))
    (get_at m q)) (get_at m q)) [
      | true ↦ λ same.
          let before : get_under (map_at m s) q.path q.version ≡ get_at m q =
          under_or_empty (map.get m s) q.path q.version
          ∙ ap (λ t. option_and_then (λ ps. get_under ps q.path q.version) (map.get m t))
          (sym (tells_apart texts_exact q.shelf s same)) in
          get_put_under (map_at m s) p v e q.path q.version
          ∙ ap (λ o. cond (eq_by_cmp text_cmp q.path p) (cond (eq_by_cmp text_cmp q.version v) (Some e) o) o) before
      | false ↦ λ _. refl
    ] refl

-- what was put there stands at its place, and the rest as before
pub put_at_place : (m : Nested) (s p v : List ℕ) (e : Entry)
    → by_place (put_at m s p v e) ≡ map.insert (by_place m) (place s p v) e
put_at_place m s p v e = map.same_map places_total places_exact _ _ (λ q.
    get_by_place (put_at m s p v e) q ∙ get_put_at m s p v e q
    ∙ sym (one_place (text_cmp q.shelf s) (text_cmp q.path p) (text_cmp q.version v) (Some e) (get_at m q))
    ∙ sym (map.get-insert places_total (by_place m) (place s p v) e q
    ∙ ap (cond (eq_by_cmp place_cmp q (place s p v)) (Some e)) (get_by_place m q)))

-- the steps of an insertion
module _ (m : Nested) (s p v : List ℕ) (e : Entry) {n : Nested}
    {after : map.FinMap text_cmp (map.FinMap text_cmp Entry)} where
  -- an entry put among the paths that a shelf has
  pub put_on_shelf : {paths : map.FinMap text_cmp (map.FinMap text_cmp Entry)} → Some paths ≡ map.get m s
      → n ≡ map.insert m s after → after ≡ put_under paths p v e → n ≡ put_at m s p v e
  put_on_shelf found lent put = lent
      ∙ ap (map.insert m s) (put
      ∙ ap (λ (o : Option (map.FinMap text_cmp (map.FinMap text_cmp Entry))). put_under (unwrap_or o map.empty) p v e)
      found)

  -- the first entry of a shelf
  pub put_on_new : None ≡ map.get m s → n ≡ map.insert m s after → after ≡ put_under map.empty p v e
      → n ≡ put_at m s p v e
  put_on_new free new put = new
      ∙ ap (map.insert m s) (put
      ∙ ap (λ (o : Option (map.FinMap text_cmp (map.FinMap text_cmp Entry))). put_under (unwrap_or o map.empty) p v e)
      free)
