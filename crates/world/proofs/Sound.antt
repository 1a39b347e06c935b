-- Each change of a world leads to a world.
use Rattle.std.proofs.Common.{◌≡◌, ℕ, ◌+◌, ◌≤◌, ◌<◌, List, Bool, true, false, cond, refl, ◌∙◌, sym, ap, subst, Option}
use Rattle.std.proofs.Common.{Some, None, inl, inr, ◌⊎◌, arith}
use Rattle.std.specs.Prelude.{bytes_eq, ◌&&◌, ◌||◌, not, is_some, if◌then◌else◌, unwrap_or}
use Rattle.std.specs.Ordering.{eq_by_cmp}
use Rattle.std.specs.declared.cmp.Ordering.{Ordering}
use Rattle.std.specs.Cmp.{IsTotalOrder}
use Rattle.std.specs.FinMap as map
use Rattle.std.specs.FinSet as set
use Rattle.std.proofs.lemmas.Bool.{true≢false, and_parts, not-false, not-true, or_cases, or_right}
use Rattle.std.proofs.lemmas.Map.Views.{tells_apart}
use Rattle.world.specs.declared.entry.Place.{Place}
use Rattle.world.specs.declared.entry.Entry.{Entry}
use Rattle.world.specs.declared.entry.Holder.{Holder}
use Rattle.world.specs.declared.entry.Right.{Right}
use Rattle.world.specs.declared.registry.RegistryReply.{RegistryReply}
use Rattle.world.specs.declared.registry.RegistryReply.TheVariants.{Done, Name, Taken, NoTeam, NoGroup}
use Rattle.world.specs.World.{World, IsWorld, IsEntry, common, is_team_name, is_key, version_limit, text_cmp, count}
use Rattle.world.specs.World.{with_entry, with_key, without_key, without_keys_on, is_held_on, with_shelf}
use Rattle.world.specs.Registry.{is_top, is_group, lacks_group, team_added, group_added, key_added, after_team_add}
use Rattle.world.specs.Registry.{after_group_add, after_key_add, after_key_revoke, after_keys_revoke}
use Rattle.world.specs.Store.{IsRoomFor}
use Rattle.world.proofs.Orders.{texts_total, texts_exact, places_total, places_exact, text_same, get_elsewhere}
use Rattle.world.proofs.Parts.{text_alike, passed}
use Rattle.world.proofs.Retained.{stays, goes}

-- ---- one more

-- what stands after an insertion is what was put or stood before
put_or_before : {X : Type 0} (b : Bool) (x : X) (old : Option X) (y : X) → cond b (Some x) old ≡ Some y
    → ((b ≡ true) × (x ≡ y)) ⊎ (old ≡ Some y)
put_or_before true x old y e = inl (refl, cc)
put_or_before false x old y e = inr e

pub at_or_before : {K X : Type 0} {R : K → K → Ordering} (o : IsTotalOrder R) → map.IsAntisymmetric R
    → (m : map.FinMap R X) (k q : K) (x y : X) → map.get (map.insert m k x) q ≡ Some y
    → ((k ≡ q) × (x ≡ y)) ⊎ (map.get m q ≡ Some y)
at_or_before {R = R} o exact m k q x y e =
    elim (put_or_before (eq_by_cmp R q k) x (map.get m q) y (sym (map.get-insert o m k x q) ∙ e)) [
      | inl here ↦ inl (sym (tells_apart exact q k here.0), here.1)
      | inr before ↦ inr before
    ]

pub still : (s : set.FinSet text_cmp) (t x : List ℕ) → set.contains s x ≡ true → set.contains (set.insert s t) x ≡ true
still s t x stands = set.contains-insert texts_total s t x ∙ or_right (eq_by_cmp text_cmp x t) _ stands

-- ---- one more shelf

-- what stands where a shelf is put, by the test of its name
some_put : {X : Type 0} (b : Bool) (x : X) (o : Option X) → is_some (cond b (Some x) o) ≡ (b || is_some o)
some_put true x o = refl
some_put false x o = refl

module _ (w : World) (s : List ℕ) (parent : Option (List ℕ)) where
  pub has_put : (x : List ℕ)
      → map.contains_key (with_shelf w s parent).shelves x ≡ (eq_by_cmp text_cmp x s || map.contains_key w.shelves x)
  has_put x = ap is_some (map.get-insert texts_total w.shelves s parent x)
      ∙ some_put (eq_by_cmp text_cmp x s) parent (map.get w.shelves x)

  -- a shelf that is there stays there
  pub stands_still : (x : List ℕ) → map.contains_key w.shelves x ≡ true
      → map.contains_key (with_shelf w s parent).shelves x ≡ true
  stands_still x stands = has_put x ∙ or_right (eq_by_cmp text_cmp x s) _ stands

  -- what is there is the new one or was there before
  pub new_or_stood : (x : List ℕ) → map.contains_key (with_shelf w s parent).shelves x ≡ true
      → (x ≡ s) ⊎ (map.contains_key w.shelves x ≡ true)
  new_or_stood x at = elim (or_cases (eq_by_cmp text_cmp x s) _ (sym (has_put x) ∙ at)) [
    | inl here ↦
        inl (tells_apart texts_exact x s here)
    | inr old ↦ inr old
  ]

  module _ (fresh : map.contains_key w.shelves s ≡ false) where
    -- a shelf that is there keeps its parent
    pub parent_still : (x : List ℕ) → map.contains_key w.shelves x ≡ true
        → map.get (with_shelf w s parent).shelves x ≡ map.get w.shelves x
    parent_still x stands = get_elsewhere texts_total texts_exact w.shelves s parent x
        (λ same. true≢false (sym stands ∙ ap (map.contains_key w.shelves) same ∙ fresh))

    put_still : (x : List ℕ) (o : Option (List ℕ)) → map.get w.shelves x ≡ Some o
        → map.get (with_shelf w s parent).shelves x ≡ Some o
    put_still x o at = parent_still x (ap is_some at) ∙ at

    -- a world with a new shelf is a world if the name is a team's and the parent, if any, exists and has no parent
    pub shelf_stands : IsWorld w → is_team_name s ≡ true
        → ((g : List ℕ) → parent ≡ Some g → map.get w.shelves g ≡ Some None) → IsWorld (with_shelf w s parent)
    shelf_stands is named tops = record {
      has_common = put_still common None is.has_common;
      team_names = λ x at. elim (new_or_stood x at) [
        | inl here ↦ inr (ap is_team_name here ∙ named)
        | inr old ↦ is.team_names x old
      ];
      parents = λ x g at. elim (at_or_before texts_total texts_exact w.shelves s x parent (Some g) at) [
        | inl here ↦ put_still g None (tops g here.1)
        | inr before ↦ put_still g None (is.parents x g before)
      ];
      key_names = is.key_names;
      keys_stand = λ k h at. stands_still h.shelf (is.keys_stand k h at);
      entries_fit = is.entries_fit;
      entries_stand = λ q e at. stands_still q.shelf (is.entries_stand q e at);
      few = is.few;
    }

-- ---- one more entry, one key more or less

pub at_most_one_more : (b : Bool) (n : ℕ) → cond b n (n + 1) ≤ n + 1
at_most_one_more true n = omega arith
at_most_one_more false n = omega arith

-- the versions of a path after one more entry
count_after : (w : World) (q : Place) (e : Entry) (s p : List ℕ) → (count w q.shelf q.path < version_limit)
    → count w s p ≤ version_limit → count (with_entry w q e) s p ≤ version_limit
count_after w q e s p room few =
    let test : Place → Bool = λ r. bytes_eq r.shelf s && bytes_eq r.path p in
    elim (test q) as (λ b. test q ≡ b → count (with_entry w q e) s p ≤ version_limit) [
      | true ↦ λ passes.
          let same = and_parts (bytes_eq q.shelf s) (bytes_eq q.path p) passes in
          let here : count w s p < version_limit =
          subst (λ x. count w x p < version_limit) (text_same q.shelf s same.0)
          (subst (λ x. count w q.shelf x < version_limit) (text_same q.path p same.1) room) in
          let grown : count (with_entry w q e) s p
          ≡ cond (map.contains_key (map.retain_keys w.entries test) q) (count w s p) (count w s p + 1) =
          ap map.len (stays places_total places_exact test w.entries q e passes)
          ∙ map.len-insert places_total (map.retain_keys w.entries test) q e in
          let most = at_most_one_more (map.contains_key (map.retain_keys w.entries test) q) (count w s p) in
          omega (arith, here, grown, most)
      | false ↦ λ fails.
          let same : count (with_entry w q e) s p ≡ count w s p =
          ap map.len (goes places_total places_exact test w.entries q e fails) in
          omega (arith, same, few)
    ] refl

-- a world with an entry more is a world if there was room for the entry
pub entry_added : (w : World) (q : Place) (e : Entry) → IsWorld w → IsRoomFor w q e → IsWorld (with_entry w q e)
entry_added w q e is room = record {
  has_common = is.has_common;
  team_names = is.team_names;
  parents = is.parents;
  key_names = is.key_names;
  keys_stand = is.keys_stand;
  entries_fit = λ r x at. elim (at_or_before places_total places_exact w.entries q r e x at) [
    | inl here ↦ subst (λ y. IsEntry y x) here.0 (subst (λ y. IsEntry q y) here.1 room.entry)
    | inr before ↦ is.entries_fit r x before
  ];
  entries_stand = λ r x at. elim (at_or_before places_total places_exact w.entries q r e x at) [
    | inl here ↦ ap (λ (y : Place). map.contains_key w.shelves y.shelf) (sym here.0) ∙ room.stands
    | inr before ↦ is.entries_stand r x before
  ];
  few = λ s p. count_after w q e s p room.room (is.few s p);
}

-- a world with a key more is a world if the key is well formed and its shelf exists
pub key_stands : (w : World) (k : List ℕ) (h : Holder) → IsWorld w → is_key k ≡ true
    → map.contains_key w.shelves h.shelf ≡ true → IsWorld (with_key w k h)
key_stands w k h is named stands = record {
  has_common = is.has_common;
  team_names = is.team_names;
  parents = is.parents;
  key_names = λ j g at. elim (at_or_before texts_total texts_exact w.keys k j h g at) [
    | inl here ↦ ap is_key (sym here.0) ∙ named
    | inr before ↦ is.key_names j g before
  ];
  keys_stand = λ j g at. elim (at_or_before texts_total texts_exact w.keys k j h g at) [
    | inl here ↦ ap (λ (y : Holder). map.contains_key w.shelves y.shelf) (sym here.1) ∙ stands
    | inr before ↦ is.keys_stand j g before
  ];
  entries_fit = is.entries_fit;
  entries_stand = is.entries_stand;
  few = is.few;
}

-- what stands after a key is gone stood before
left_before : {X : Type 0} (b : Bool) (old : Option X) (y : X) → cond b None old ≡ Some y → old ≡ Some y
left_before true old y e = cc
left_before false old y e = e

key_before : (w : World) (k j : List ℕ) (h : Holder) → map.get (without_key w k).keys j ≡ Some h
    → map.get w.keys j ≡ Some h
key_before w k j h at = left_before (eq_by_cmp text_cmp j k) (map.get w.keys j) h
    (sym (map.get-remove texts_total w.keys k j) ∙ at)

-- a world with a key less is a world
pub key_gone : (w : World) (k : List ℕ) → IsWorld w → IsWorld (without_key w k)
key_gone w k is = record {
  has_common = is.has_common;
  team_names = is.team_names;
  parents = is.parents;
  key_names = λ j h at. is.key_names j h (key_before w k j h at);
  keys_stand = λ j h at. is.keys_stand j h (key_before w k j h at);
  entries_fit = is.entries_fit;
  entries_stand = is.entries_stand;
  few = is.few;
}

-- what stands after the keys of a shelf are gone
pub key_left_at : (w : World) (s j : List ℕ)
    → map.get (without_keys_on w s).keys j ≡ cond (not (is_held_on s (map.get w.keys j))) (map.get w.keys j) None
key_left_at w s j =
    let test : List ℕ → Bool = λ k. not (is_held_on s (map.get w.keys k)) in
    map.get-retain_keys w.keys test j (text_alike test j)

-- a key that is left stood before, and is not of that shelf
pub key_left : (w : World) (s j : List ℕ) (h : Holder) → map.get (without_keys_on w s).keys j ≡ Some h
    → (map.get w.keys j ≡ Some h) × (bytes_eq h.shelf s ≡ false)
key_left w s j h at =
    let it = passed (not (is_held_on s (map.get w.keys j))) (map.get w.keys j) h (sym (key_left_at w s j) ∙ at) in
    (it.1, not-true (bytes_eq h.shelf s) (sym (ap (λ o. not (is_held_on s o)) it.1) ∙ it.0))

-- a world without the keys of a shelf is a world
pub keys_gone : (w : World) (s : List ℕ) → IsWorld w → IsWorld (without_keys_on w s)
keys_gone w s is = record {
  has_common = is.has_common;
  team_names = is.team_names;
  parents = is.parents;
  key_names = λ j h at. is.key_names j h (key_left w s j h at).0;
  keys_stand = λ j h at. is.keys_stand j h (key_left w s j h at).0;
  entries_fit = is.entries_fit;
  entries_stand = is.entries_stand;
  few = is.few;
}

-- ---- the registry

is_done : RegistryReply → Bool
is_done Done = true
is_done r = false

-- a key is added only if it is one, and to a shelf that is there
key_is_fit : (a b c : Bool) → (if not a then Name else if not b then NoTeam else if c then Taken else Done) ≡ Done
    → (a ≡ true) × (b ≡ true)
unfolding is_done
key_is_fit true true c e = (refl, refl)
key_is_fit true false c e = absurd (true≢false (sym (ap is_done e)))
key_is_fit false b c e = absurd (true≢false (sym (ap is_done e)))

shelf_is_fit : (a b : Bool) → (if not a then Name else if b then Taken else Done) ≡ Done → (a ≡ true) × (b ≡ false)
unfolding is_done
shelf_is_fit true false e = (refl, refl)
shelf_is_fit true true e = absurd (true≢false (sym (ap is_done e)))
shelf_is_fit false b e = absurd (true≢false (sym (ap is_done e)))

team_is_fit : (a b c : Bool) → (if not a then Name else if b then Taken else if c then NoGroup else Done) ≡ Done
    → (a ≡ true) × (b ≡ false) × (c ≡ false)
unfolding is_done
team_is_fit true false false e = (refl, refl, refl)
team_is_fit true false true e = absurd (true≢false (sym (ap is_done e)))
team_is_fit true true c e = absurd (true≢false (sym (ap is_done e)))
team_is_fit false b c e = absurd (true≢false (sym (ap is_done e)))

pub new_team : (w : World) (t : List ℕ) (group : Option (List ℕ)) → team_added w t group ≡ Done
    → (is_team_name t ≡ true) × (map.contains_key w.shelves t ≡ false) × (lacks_group w group ≡ false)
new_team w t group e = team_is_fit (is_team_name t) (map.contains_key w.shelves t) (lacks_group w group) e

pub new_group : (w : World) (g : List ℕ) → group_added w g ≡ Done
    → (is_team_name g ≡ true) × (map.contains_key w.shelves g ≡ false)
new_group w g e = shelf_is_fit (is_team_name g) (map.contains_key w.shelves g) e

-- a shelf that is there and has no parent
pub top_is : (o : Option (Option (List ℕ))) → is_top o ≡ true → o ≡ Some None
top_is None e = absurd (true≢false (sym e))
top_is (Some None) e = refl
top_is (Some (Some parent)) e = absurd (true≢false (sym e))

-- below which a team is made has no parent
pub below_top : (w : World) (group : Option (List ℕ)) → IsWorld w → lacks_group w group ≡ false
    → map.get w.shelves (unwrap_or group common) ≡ Some None
below_top w None is has = is.has_common
below_top w (Some g) is has =
    top_is (map.get w.shelves g)
    (and_parts (is_top (map.get w.shelves g)) (not (bytes_eq g common)) (not-false (is_group w g) has)).0

same_parent : (a g : List ℕ) → Some a ≡ Some g → a ≡ g
same_parent a g e = cc e

pub sound_team : (w : World) (t : List ℕ) (group : Option (List ℕ)) (r : RegistryReply) → IsWorld w
    → team_added w t group ≡ r → IsWorld (after_team_add w t group r)
sound_team w t group Done is e =
    let new = new_team w t group e in
    shelf_stands w t (Some (unwrap_or group common)) new.1 is new.0
    (λ g at. ap (map.get w.shelves) (sym (same_parent (unwrap_or group common) g at)) ∙ below_top w group is new.2)
sound_team w t group r is e = is

pub sound_group : (w : World) (g : List ℕ) (r : RegistryReply) → IsWorld w → group_added w g ≡ r
    → IsWorld (after_group_add w g r)
sound_group w g Done is e = let new = new_group w g e in shelf_stands w g None new.1 is new.0 (λ p never. cc never)
sound_group w g r is e = is

pub sound_key : (w : World) (t k : List ℕ) (right : Right) (r : RegistryReply) → IsWorld w → key_added w t k ≡ r
    → IsWorld (after_key_add w t k right r)
sound_key w t k right Done is e =
    let fit = key_is_fit (is_key k) (map.contains_key w.shelves t) (map.contains_key w.keys k) e in
    key_stands w k (record { shelf = t; right = right }) is fit.0 fit.1
sound_key w t k right r is e = is

pub sound_revoke : (w : World) (k : List ℕ) (r : RegistryReply) → IsWorld w → IsWorld (after_key_revoke w k r)
sound_revoke w k Done is = key_gone w k is
sound_revoke w k r is = is

pub sound_keys_revoke : (w : World) (s : List ℕ) (r : RegistryReply) → IsWorld w → IsWorld (after_keys_revoke w s r)
sound_keys_revoke w s Done is = keys_gone w s is
sound_keys_revoke w s r is = is
