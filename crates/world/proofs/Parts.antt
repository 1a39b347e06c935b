-- What a shelf sees of a world is a world.
use Rattle.std.proofs.Common.{◌≡◌, ℕ, ◌≤◌, List, Bool, true, false, cond, refl, ◌∙◌, sym, ap, Option, Some, None, arith}
use Rattle.std.specs.Prelude.{bytes_eq, ◌&&◌, is_some}
use Rattle.std.specs.FinMap as map
use Rattle.std.specs.declared.cmp.Ordering.TheVariants.{Equal}
use Rattle.std.proofs.lemmas.Bool.{true≢false, and_parts, and_from}
use Rattle.world.specs.declared.entry.Place.{Place}
use Rattle.world.specs.declared.entry.Entry.{Entry}
use Rattle.world.specs.declared.entry.Holder.{Holder}
use Rattle.world.specs.World.{World, common, chain, is_among, sees, text_cmp, place_cmp, count, version_limit}
use Rattle.world.specs.Part.{part, is_held, PartIsWorld, PartHasTheChain}
use Rattle.world.proofs.Orders.{texts_exact, places_total, places_exact, text_same, test_alike}
use Rattle.world.proofs.Sees.{sees_common, sees_parent, sees_through, seen_stands}

pub text_alike : (f : List ℕ → Bool) (q x : List ℕ) → text_cmp q x ≡ Equal → f x ≡ f q
text_alike f q x e = ap f (sym (texts_exact q x e))

-- ---- what it has

pub parent_at : (w : World) (t s : List ℕ) → map.get (part w t).shelves s ≡ cond (sees w t s) (map.get w.shelves s) None
parent_at w t s = map.get-retain_keys w.shelves (is_among (chain w t)) s (text_alike (is_among (chain w t)) s)

pub some_left : {X : Type 0} (b : Bool) (o : Option X) → is_some (cond b o None) ≡ (is_some o && b)
some_left true None = refl
some_left true (Some x) = refl
some_left false None = refl
some_left false (Some x) = refl

pub shelf_at : (w : World) (t s : List ℕ)
    → map.contains_key (part w t).shelves s ≡ (map.contains_key w.shelves s && sees w t s)
shelf_at w t s = ap is_some (parent_at w t s) ∙ some_left (sees w t s) (map.get w.shelves s)

-- a shelf that it sees has its parent
pub parent_left : (w : World) (t s : List ℕ) → sees w t s ≡ true → map.get (part w t).shelves s ≡ map.get w.shelves s
parent_left w t s seen = parent_at w t s ∙ ap (λ b. cond b (map.get w.shelves s) None) seen

pub key_at : (w : World) (t k : List ℕ)
    → map.get (part w t).keys k ≡ cond (is_held (chain w t) (map.get w.keys k)) (map.get w.keys k) None
key_at w t k = let test : List ℕ
    → Bool = λ j. is_held (chain w t) (map.get w.keys j) in map.get-retain_keys w.keys test k (text_alike test k)

pub entry_at : (w : World) (t : List ℕ) (q : Place)
    → map.get (part w t).entries q ≡ cond (sees w t q.shelf) (map.get w.entries q) None
entry_at w t q = let test : Place
    → Bool = λ r. sees w t r.shelf in map.get-retain_keys w.entries test q (test_alike test q)

pub passed : {X : Type 0} (b : Bool) (o : Option X) (x : X) → cond b o None ≡ Some x → (b ≡ true) × (o ≡ Some x)
passed true o x e = (refl, e)
passed false o x e = cc

-- a key that it has
pub held_key : (w : World) (t k : List ℕ) (h : Holder) → map.get (part w t).keys k ≡ Some h
    → (map.get w.keys k ≡ Some h) × (sees w t h.shelf ≡ true)
held_key w t k h at =
    let it = passed (is_held (chain w t) (map.get w.keys k)) (map.get w.keys k) h (sym (key_at w t k) ∙ at) in
    (it.1, sym (ap (is_held (chain w t)) it.1) ∙ it.0)

-- an entry that it has
pub held_entry : (w : World) (t : List ℕ) (q : Place) (e : Entry) → map.get (part w t).entries q ≡ Some e
    → (map.get w.entries q ≡ Some e) × (sees w t q.shelf ≡ true)
held_entry w t q e at = let it = passed (sees w t q.shelf) (map.get w.entries q) e (sym (entry_at w t q) ∙ at) in
    (it.1, it.0)

-- ---- how many versions of a path

-- a test that the other has no say in, or that passes nothing of what it leaves
pub still : {X : Type 0} (b c : Bool) (o : Option X) → (b ≡ true → c ≡ true)
    → cond b (cond c o None) None ≡ cond b o None
still true true o h = refl
still true false o h = absurd (true≢false (sym (h refl)))
still false c o h = refl

pub gone : {X : Type 0} (b c : Bool) (o : Option X) → (b ≡ true → c ≡ false) → cond b (cond c o None) None ≡ None
gone true true o h = absurd (true≢false (h refl))
gone true false o h = refl
gone false c o h = refl

-- if a shelf s has no more versions of a path than the limit, it has no more of them in what t sees
few_left : (w : World) (t s p : List ℕ) → count w s p ≤ version_limit → count (part w t) s p ≤ version_limit
few_left w t s p few =
    let test : Place → Bool = λ q. bytes_eq q.shelf s && bytes_eq q.path p in
    let at : (q : Place) → map.get (map.retain_keys (part w t).entries test) q
    ≡ cond (test q) (cond (sees w t q.shelf) (map.get w.entries q) None) None =
    λ q. map.get-retain_keys (part w t).entries test q (test_alike test q)
    ∙ ap (λ o. cond (test q) o None) (entry_at w t q) in
    let here : (q : Place) → test q ≡ true
    → sees w t q.shelf ≡ sees w t s = λ q e.
    ap (sees w t) (text_same q.shelf s (and_parts (bytes_eq q.shelf s) (bytes_eq q.path p) e).0) in
    elim (sees w t s) as (λ b. sees w t s ≡ b → count (part w t) s p ≤ version_limit) [
      | true ↦ λ seen.
          let same : count (part w t) s p ≡ count w s p = ap map.len (map.same_map places_total places_exact _ _ (λ q.
          at q ∙ still (test q) (sees w t q.shelf) (map.get w.entries q) (λ e. here q e ∙ seen)
          ∙ sym (map.get-retain_keys w.entries test q (test_alike test q)))) in
          omega (arith, same, few)
      | false ↦ λ unseen.
          let none : count (part w t) s p ≡ 0 = ap map.len (map.same_map places_total places_exact _ map.empty (λ q.
          at q ∙ gone (test q) (sees w t q.shelf) (map.get w.entries q) (λ e. here q e ∙ unseen)
          ∙ sym (map.get-empty place_cmp q))) ∙ map.len-empty place_cmp Entry in
          omega (arith, none)
    ] refl

-- ---- it is a world

-- what a shelf sees of a world is a world
pub part_is_world : PartIsWorld
part_is_world w t is = record {
  has_common = parent_left w t common (sees_common w t) ∙ is.has_common;
  team_names = λ s at. is.team_names s
      (and_parts (map.contains_key w.shelves s) (sees w t s) (sym (shelf_at w t s) ∙ at)).0;
  parents = λ s parent at.
      let it = passed (sees w t s) (map.get w.shelves s) (Some parent) (sym (parent_at w t s) ∙ at) in
      parent_left w t parent (sees_through w is t s parent it.0 (sees_parent w s parent it.1))
      ∙ is.parents s parent it.1;
  key_names = λ k h at. is.key_names k h (held_key w t k h at).0;
  keys_stand = λ k h at. let it = held_key w t k h at in shelf_at w t h.shelf
      ∙ and_from _ _ (is.keys_stand k h it.0) it.1;
  entries_fit = λ q e at. is.entries_fit q e (held_entry w t q e at).0;
  entries_stand = λ q e at. let it = held_entry w t q e at in shelf_at w t q.shelf
      ∙ and_from _ _ (is.entries_stand q e it.0) it.1;
  few = λ s p. few_left w t s p (is.few s p);
}

only_second : (a b : Bool) → (b ≡ true → a ≡ true) → (a && b) ≡ b
only_second true b h = refl
only_second false true h = h refl
only_second false false h = refl

pub part_has_the_chain : PartHasTheChain
part_has_the_chain w t s is stands = shelf_at w t s ∙ only_second _ _ (seen_stands w t s is stands)
