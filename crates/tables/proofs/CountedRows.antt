-- As many rows as a world has entries of a path on a shelf.
use Rattle.std.proofs.Common.{◌≡◌, ◌∙◌, ◌+◌, ℕ, suc, Bool, true, false, cond, List, [], ◌∷◌, length, filter, Option}
use Rattle.std.proofs.Common.{Some, None, is_some, inl, inr, refl, sym, ap, subst, arith, true≢false}
use Rattle.std.specs.FinMap as map
use Rattle.std.specs.Ordering.{eq_by_cmp, is_eq}
use Rattle.std.specs.declared.cmp.Ordering.{Ordering}
use Rattle.std.specs.Cmp.{IsTotalOrder, tied_itself}
use Rattle.std.proofs.lemmas.Bool.{cases_Bool}
use Rattle.std.proofs.lemmas.Map.Views.{tells_apart}
use Rattle.sqlite.specs.Order.{Row}
use Rattle.sqlite.specs.Tree.{Trees}
use Rattle.sqlite_trees.specs.Tree.{IsAscending}
use Rattle.sqlite_rules.specs.Lists.{Has}
use Rattle.sqlite_rules.proofs.ListLemmas.{all_has, all_from, has_filtered, has_kept}
use Rattle.world.specs.declared.entry.Place.{Place}
use Rattle.world.specs.declared.entry.Entry.{Entry}
use Rattle.world.specs.World.{World, count}
use Rattle.world.proofs.Orders.{places_total, places_exact, test_alike}
use Rattle.tables.specs.Means.{Means, IsAt}
use Rattle.tables.specs.Fit.{is_on}

-- ---- as many rows as there are keys

ascending_filtered : {X : Type 0} (P : X → X → Type 0) (f : X → Bool) (xs : List X) → IsAscending P xs
    → IsAscending P (filter f xs)
ascending_filtered P f [] up = tt
ascending_filtered {X} P f (x ∷ xs) up = go (f x) (ascending_filtered P f xs up.1)
  where
    go : (b : Bool) → IsAscending P (filter f xs) → IsAscending P (cond b (x ∷ filter f xs) (filter f xs))
    go true rest = (all_from (P x) (filter f xs) (λ y h. all_has (P x) xs y up.0 (has_filtered f xs y h).0), rest)
    go false rest = rest

module _ {K X : Type 0} {R : K → K → Ordering} (o : IsTotalOrder R) (exact : map.IsAntisymmetric R)
    (Names : Row → K → Type 0) (same : (row : Row) (p q : K) → Names row p → Names row q → p ≡ q) where
  abbrev has : map.FinMap R X → K → Type 0
  has m q = map.contains_key m q ≡ true

  no_keys : (m : map.FinMap R X) → ((q : K) → has m q → ⊥) → m ≡ map.empty
  no_keys m none = map.same_map o exact m map.empty (λ q. go q (map.get m q) refl)
    where
      go : (q : K) (g : Option X) → map.get m q ≡ g → g ≡ map.get (map.empty {X = X} {R = R}) q
      go q None is = sym (map.get-empty R q)
      go q (Some x) is = absurd (none q (ap is_some is))

  without : (m : map.FinMap R X) (p q : K) → (q ≡ p → ⊥) → map.get (map.remove m p) q ≡ map.get m q
  without m p q apart = elim (cases_Bool (eq_by_cmp R q p)) [
    | inl tied ↦ absurd (apart (tells_apart exact q p tied))
    | inr free ↦ map.get-remove o m p q ∙ ap (λ b. cond b None (map.get m q)) free
  ]

  gone : (m : map.FinMap R X) (p : K) → map.get (map.remove m p) p ≡ None
  gone m p = map.get-remove o m p p ∙ ap (λ r. cond (is_eq r) None (map.get m p)) (tied_itself o p)

  put_back : (m : map.FinMap R X) (p : K) (x : X) → map.get m p ≡ Some x → map.insert (map.remove m p) p x ≡ m
  put_back m p x is = map.same_map o exact _ m
      (λ q. map.get-insert o (map.remove m p) p x q ∙ go q (eq_by_cmp R q p) refl)
    where
      go : (q : K) (b : Bool) → eq_by_cmp R q p ≡ b → cond b (Some x) (map.get (map.remove m p) q) ≡ map.get m q
      go q true tied = sym is ∙ ap (map.get m) (sym (tells_apart exact q p tied))
      go q false free = map.get-remove o m p q ∙ ap (λ b. cond b None (map.get m q)) free

  one_fewer : (m : map.FinMap R X) (p : K) (g : Option X) → map.get m p ≡ g → is_some g ≡ true
      → map.len m ≡ suc (map.len (map.remove m p))
  one_fewer m p None is some = absurd (true≢false (sym some))
  one_fewer m p (Some x) is some =
      let grown : map.len (map.insert (map.remove m p) p x) ≡ map.len (map.remove m p) + 1 =
      map.len-insert o (map.remove m p) p x
      ∙ ap (λ (g : Option X). cond (is_some g) (map.len (map.remove m p)) (map.len (map.remove m p) + 1)) (gone m p) in
      let back : map.len (map.insert (map.remove m p) p x) ≡ map.len m = ap map.len (put_back m p x is) in
      omega (arith, grown, back)

  -- a map has as many keys as there are rows, if each row names a key of it, each key has a row, and no two rows name
  -- one key
  pub rows_counted : (rows : List Row) (m : map.FinMap R X)
      → ((row : Row) → Has rows row → (p : K) × Names row p × has m p)
      → ((p : K) → has m p → (row : Row) × Has rows row × Names row p)
      → IsAscending (λ a b. (p : K) → Names a p → Names b p → ⊥) rows → length rows ≡ map.len m
  rows_counted [] m each found once = sym (ap map.len (no_keys m (λ q h. (found q h).1)) ∙ map.len-empty R X)
  rows_counted (r ∷ rows) m each found once =
      let it = each r (inl refl) in
      let p = it.0 in
      let less = map.remove m p in
      let rest : length rows ≡ map.len less = rows_counted rows less
      (λ row there. let x = each row (inr there) in (
        x.0,
        x.1,
        ap (λ (g : Option X). is_some g)
            (without m p x.0 (λ tied.
            all_has (λ b. (q : K) → Names r q → Names b q → ⊥) rows row once.0 there p it.1
            (subst (Names row) tied x.1)))
            ∙ x.2,
      ))
      (λ q h.
      let apart : q ≡ p → ⊥ = λ tied.
      true≢false (sym h ∙ (ap (map.contains_key less) tied ∙ ap (λ (g : Option X). is_some g) (gone m p))) in
      let f = found q (sym (ap (λ (g : Option X). is_some g) (without m p q apart)) ∙ h) in
      elim f.1 [
        | inl here ↦ absurd (apart (same r q p (subst (λ x. Names x q) here f.2) it.1))
        | inr later ↦ (f.0, later, f.2)
      ])
      once.1 in
      ap suc rest ∙ sym (one_fewer m p (map.get m p) refl it.2)

-- ---- the versions of a path on a shelf

-- a row names one place
pub same_place : (row : Row) (p q : Place) → IsAt row p → IsAt row q → p ≡ q
same_place row p q at also =
    let shelf : p.shelf ≡ q.shelf = let e = sym at.0 ∙ also.0 in cc in
    let path : p.path ≡ q.path = let e = sym at.1 ∙ also.1 in cc in
    let version : p.version ≡ q.version = let e = sym at.2 ∙ also.2 in cc in
    λ i. record { shelf = shelf i; path = path i; version = version i }

-- where rows are picked by the place that they name, as many are picked as the path has versions on the shelf
module _ (s p : List ℕ) (w : World) (db : Trees) (means : Means db w) (picked : Row → Bool)
    (own : (q : Place) (row : Row) → IsAt row q → is_on s p q ≡ true → picked row ≡ true)
    (only : (q : Place) (row : Row) → IsAt row q → picked row ≡ true → is_on s p q ≡ true) where
  retained : (q : Place) → map.get (map.retain_keys w.entries (is_on s p)) q
      ≡ cond (is_on s p q) (map.get w.entries q) None
  retained q = map.get-retain_keys w.entries (is_on s p) q (test_alike (is_on s p) q)

  abbrev found_rows : List Row
  found_rows = filter picked (db 6)

  each_found : (row : Row) → Has found_rows row
      → (q : Place) × IsAt row q × (map.contains_key (map.retain_keys w.entries (is_on s p)) q ≡ true)
  each_found row there =
      let f = has_filtered picked (db 6) row there in
      let it = means.entries.each row f.0 in (
        it.0.0,
        it.1.place,
        ap (λ (g : Option Entry). is_some g)
            (retained it.0.0 ∙ (ap (λ b. cond b (map.get w.entries it.0.0) None) (only it.0.0 row it.1.place f.1)
            ∙ it.2)),
      )

  found_each : (q : Place) → map.contains_key (map.retain_keys w.entries (is_on s p)) q ≡ true
      → (row : Row) × Has found_rows row × IsAt row q
  found_each q h = go (is_on s p q) (map.get w.entries q) refl refl
      (sym (ap (λ (g : Option Entry). is_some g) (retained q)) ∙ h)
    where
      go : (b : Bool) (g : Option Entry) → is_on s p q ≡ b → map.get w.entries q ≡ g → is_some (cond b g None) ≡ true
          → (row : Row) × Has found_rows row × IsAt row q
      go true None passed is some = absurd (true≢false (sym some))
      go true (Some e) passed is some = let it = means.entries.found (q, e) is in
          (it.0, has_kept picked (db 6) it.0 it.1 (own q it.0 it.2.place passed), it.2.place)
      go false g passed is some = absurd (true≢false (sym some))

  pub all_counted : length found_rows ≡ count w s p
  all_counted = rows_counted places_total places_exact IsAt same_place found_rows
      (map.retain_keys w.entries (is_on s p)) each_found found_each (ascending_filtered _ picked (db 6) means.places)
