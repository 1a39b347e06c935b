-- The shelf `common` alone is a world.
use Rattle.std.proofs.Common.{◌≡◌, ℕ, List, Bool, true, false, cond, refl, ◌∙◌, sym, ap, Option, Some, None, inl, arith}
use Rattle.std.proofs.Common.{true≢false}
use Rattle.std.specs.Prelude.{is_some, bytes_eq, ◌&&◌}
use Rattle.std.specs.Ordering.{eq_by_cmp}
use Rattle.std.specs.declared.cmp.Ordering.{Ordering}
use Rattle.std.specs.FinMap as map
use Rattle.std.proofs.lemmas.Map.Views.{tells_apart}
use Rattle.world.specs.declared.entry.Place.{Place}
use Rattle.world.specs.declared.entry.Entry.{Entry}
use Rattle.world.specs.World.{IsWorld, only_common, common, text_cmp, place_cmp}
use Rattle.world.proofs.Ties.{neither}
use Rattle.world.proofs.Orders.{texts_total, texts_exact, places_total, places_exact, get_put}

none_is_none : {X : Type 0} (x : X) → ◌≡◌ {A = Option X} None (Some x) → ⊥
none_is_none x e = true≢false (sym (ap is_some e))

none_in_empty : {K X : Type 0} (R : K → K → Ordering) (q : K) (x : X) → map.get (map.empty {X = X} {R = R}) q ≡ Some x
    → ⊥
none_in_empty R q x e = none_is_none x (sym (map.get-empty R q) ∙ e)

-- a map with one text has what was put there, and nothing at another text
one_text : {X : Type 0} (b : Bool) (x y : X) → cond b (Some x) None ≡ Some y → (b ≡ true) × (x ≡ y)
one_text true x y e = (refl, cc e)
one_text false x y e = cc e

pub only_one : {X : Type 0} (t : List ℕ) (x : X) (u : List ℕ) (y : X)
    → map.get (map.insert (map.empty {R = text_cmp}) t x) u ≡ Some y → (u ≡ t) × (x ≡ y)
only_one t x u y e =
    let at = one_text (eq_by_cmp text_cmp u t) x y
    (sym (map.get-insert texts_total map.empty t x u
    ∙ ap (cond (eq_by_cmp text_cmp u t) (Some x)) (map.get-empty text_cmp u)) ∙ e) in
    (tells_apart texts_exact u t at.0, at.1)

pub some_there : {X : Type 0} (o : Option X) → is_some o ≡ true → (x : X) × (o ≡ Some x)
some_there None e = absurd (true≢false (sym e))
some_there (Some x) e = (x, refl)

pub has_nothing_else : {X : Type 0} (t : List ℕ) (x : X) (u : List ℕ)
    → map.contains_key (map.insert (map.empty {R = text_cmp}) t x) u ≡ true → u ≡ t
has_nothing_else t x u h = let at = some_there _ h in (only_one t x u at.0 at.1).0

pub none_retained : (p : Place → Bool) → map.len (map.retain_keys (map.empty {X = Entry} {R = place_cmp}) p) ≡ 0
none_retained p =
    ap map.len (map.same_map places_total places_exact _ _ (λ q.
    map.get-retain_keys map.empty p q (λ x e. ap p (sym (places_exact q x e)))
    ∙ ap (λ o. cond (p q) o None) (map.get-empty place_cmp q) ∙ neither (p q) ∙ sym (map.get-empty place_cmp q)))
    ∙ map.len-empty place_cmp Entry

-- the shelf `common` alone is a world
pub only_common_stands : IsWorld only_common
only_common_stands = record {
  has_common = get_put texts_total map.empty common None;
  team_names = λ s h. inl (has_nothing_else common None s h);
  parents = λ s parent e. let never : ◌≡◌ {A = Option (List ℕ)} None (Some parent) =
      (only_one common None s (Some parent) e).1 in cc never;
  key_names = λ k h e. absurd (none_in_empty text_cmp k h e);
  keys_stand = λ k h e. absurd (none_in_empty text_cmp k h e);
  entries_fit = λ q e at. absurd (none_in_empty place_cmp q e at);
  entries_stand = λ q e at. absurd (none_in_empty place_cmp q e at);
  few = λ s p. let none = none_retained (λ q. bytes_eq q.shelf s && bytes_eq q.path p) in omega (arith, none);
}
