-- A world without the versions that came to it is one.
use Rattle.std.proofs.Common.{◌≡◌, ◌≤◌, ◌∙◌, ℕ, List, [], ◌∷◌, Bool, true, false, cond, Option, Some, None, ap, sym, refl}
use Rattle.std.proofs.Common.{◌+◌, suc, arith, filter, length, subst}
use Rattle.std.specs.Prelude.{bytes_eq, not, ◌&&◌}
use Rattle.std.specs.FinMap as map
use Rattle.std.specs.FinMap.Entries.{find-where_key}
use Rattle.std.specs.FinSet as set
use Rattle.std.specs.declared.cmp.Ordering.TheVariants.{Equal}
use Rattle.world.proofs.Orders.{places_exact, places_total}
use Rattle.world.specs.World.{World, IsWorld, count, place_cmp}
use Rattle.world.specs.declared.entry.Entry.{Entry}
use Rattle.world.specs.declared.entry.Place.{Place}
use Rattle.catalog.specs.Sight.{without}

-- what it has at a place
pub without_at : (w : World) (newcomers : set.FinSet place_cmp) (q : Place)
    → map.get (without w newcomers).entries q ≡ cond (not (set.contains newcomers q)) (map.get w.entries q) None
without_at w newcomers q =
    map.get-retain_keys w.entries (λ p. not (set.contains newcomers p)) q
    (λ x tie. ap (λ p. not (set.contains newcomers p)) (sym (places_exact q x tie)))

was_some : (b : Bool) (o : Option Entry) (e : Entry) → cond b o None ≡ Some e → o ≡ Some e
was_some true o e is = is
was_some false o e is = absurd (let never = is in cc)

-- an entry that it has is one of the world
pub was_there : (w : World) (newcomers : set.FinSet place_cmp) (q : Place) (e : Entry)
    → map.get (without w newcomers).entries q ≡ Some e → map.get w.entries q ≡ Some e
was_there w newcomers q e at =
    was_some (not (set.contains newcomers q)) (map.get w.entries q) e (sym (without_at w newcomers q) ∙ at)

-- ---- how many entries it has

alike : (f : Place → Bool) (q x : Place) → place_cmp q x ≡ Equal → f x ≡ f q
alike f q x tie = ap f (sym (places_exact q x tie))

one_at_most : (b : Bool) (n m : ℕ) → n ≤ m → cond b n (n + 1) ≤ suc m
one_at_most true n m less = omega (arith, less)
one_at_most false n m less = omega (arith, less)

from_few : (es : List (Place × Entry)) → map.len (map.from_entries {R = place_cmp} es) ≤ length es
from_few [] = rw (map.len-empty place_cmp Entry) (omega arith)
from_few (e ∷ es) =
    rw (map.len-insert places_total (map.from_entries es) e.0 e.1)
    (one_at_most (map.contains_key (map.from_entries {R = place_cmp} es) e.0)
    (map.len (map.from_entries {R = place_cmp} es)) (length es) (from_few es))

module _ (p : Place → Bool) where
  shorter : (b : Bool) (e : Place × Entry) (left es : List (Place × Entry)) → length left ≤ length es
      → length (cond b (e ∷ left) left) ≤ length (e ∷ es)
  shorter true e left es less = omega (arith, less)
  shorter false e left es less = omega (arith, less)

  filtered : (es : List (Place × Entry)) → length (filter (λ e. p e.0) es) ≤ length es
  filtered [] = omega arith
  filtered (e ∷ es) = shorter (p e.0) e (filter (λ e. p e.0) es) es (filtered es)

  no_more : (m : map.FinMap place_cmp Entry) → map.len (map.retain_keys m p) ≤ map.len m
  no_more m =
      let left = filter (λ (e : Place × Entry). p e.0) (map.entries m) in
      let same : map.retain_keys m p ≡ map.from_entries left =
      map.same_map places_total places_exact _ _ (λ q. map.get-retain_keys m p q (alike p q)
      ∙ (ap (λ g. cond (p q) g None) (map.get-entries m q)
      ∙ sym (map.get-from_entries places_total left q ∙ find-where_key place_cmp p q (alike p q) (map.entries m)))) in
      let one = from_few left in
      let two = filtered (map.entries m) in
      subst (λ (k : map.FinMap place_cmp Entry). map.len k ≤ map.len m) (sym same)
      (let three = map.len-entries m in omega (arith, one, two, three))

both : (a b : Bool) (o : Option Entry) → cond b (cond a o None) None ≡ cond a (cond b o None) None
both true true o = refl
both true false o = refl
both false true o = refl
both false false o = refl

swapped : (f g : Place → Bool) (m : map.FinMap place_cmp Entry) (q : Place)
    → map.get (map.retain_keys (map.retain_keys m f) g) q ≡ map.get (map.retain_keys (map.retain_keys m g) f) q
swapped f g m q =
    map.get-retain_keys (map.retain_keys m f) g q (alike g q) ∙ ap (λ o. cond (g q) o None)
    (map.get-retain_keys m f q (alike f q)) ∙ both (f q) (g q) (map.get m q)
    ∙ sym (map.get-retain_keys (map.retain_keys m g) f q (alike f q) ∙ ap (λ o. cond (f q) o None)
    (map.get-retain_keys m g q (alike g q)))

few_without : (w : World) (newcomers : set.FinSet place_cmp) (s p : List ℕ)
    → count (without w newcomers) s p ≤ count w s p
few_without w newcomers s p =
    let here : Place → Bool = λ q. bytes_eq q.shelf s && bytes_eq q.path p in
    let old : Place → Bool = λ q. not (set.contains newcomers q) in
    subst (λ (m : map.FinMap place_cmp Entry). map.len m ≤ count w s p)
    (map.same_map places_total places_exact _ _ (λ q. swapped here old w.entries q))
    (no_more old (map.retain_keys w.entries here))

pub without_is_world : (w : World) (newcomers : set.FinSet place_cmp) → IsWorld w → IsWorld (without w newcomers)
without_is_world w newcomers is = record {
  has_common = is.has_common;
  team_names = is.team_names;
  parents = is.parents;
  key_names = is.key_names;
  keys_stand = is.keys_stand;
  entries_fit = λ q e at. is.entries_fit q e (was_there w newcomers q e at);
  entries_stand = λ q e at. is.entries_stand q e (was_there w newcomers q e at);
  few = λ s p. let less = few_without w newcomers s p in let most = is.few s p in omega (arith, less, most);
}
