-- Counts of versions that are kept, as one more version is counted or stored.
use Rattle.std.proofs.Common.{◌≡◌, ◌⊎◌, ◌+◌, ℕ, List, Bool, true, false, cond, refl, sym, ap, subst, ◌∙◌, Option, Some}
use Rattle.std.proofs.Common.{None, inl, inr}
use Rattle.std.specs.Prelude.{bytes_eq, ◌&&◌, option_and_then, is_some}
use Rattle.std.specs.Ordering.{eq_by_cmp, is_eq}
use Rattle.std.specs.Cmp.{tied_itself}
use Rattle.std.specs.FinMap as map
use Rattle.std.proofs.lemmas.Bool.{true≢false, and_parts, false_from_ne_true}
use Rattle.std.proofs.lemmas.Map.Views.{tells_apart}
use Rattle.world.specs.declared.entry.Place.{Place}
use Rattle.world.specs.declared.entry.Entry.{Entry}
use Rattle.world.specs.World.{World, text_cmp, count, with_entry}
use Rattle.world.specs.FinMaps.{get_under, put_under}
use Rattle.world.specs.Counts.{Tally, AreCounts}
use Rattle.world.proofs.Orders.{texts_exact, places_total, places_exact, texts_total, text_self, text_same, test_alike}
use Rattle.world.proofs.Retained.{stays, goes}
use Rattle.world.proofs.MapsNested.{get_put_under}

-- no count is kept
pub none_kept : (w : World) → AreCounts w map.empty
none_kept w s p n e = let none : ◌≡◌ {A = Option ℕ} None (Some n) =
    sym (ap (option_and_then (λ i. map.get i p)) (map.get-empty text_cmp s)) ∙ e in cc

pub empty_counts : (w : World) (after : Tally) → after ≡ map.empty → AreCounts w after
empty_counts w after none = subst (AreCounts w) (sym none) (none_kept w)

-- what is kept after one more count is that, or was kept before elsewhere
put_or_before : (b d : Bool) (m n : ℕ) (old : Option ℕ) → cond b (cond d (Some m) old) old ≡ Some n
    → ((b ≡ true) × (d ≡ true) × (m ≡ n)) ⊎ ((b ≡ true → d ≡ true → ⊥) × (old ≡ Some n))
put_or_before true true m n old e = inl (refl, refl, cc)
put_or_before true false m n old e = inr ((λ _ h. true≢false (sym h)), e)
put_or_before false d m n old e = inr ((λ h _. true≢false (sym h)), e)

same_text : (t u : List ℕ) → t ≡ u → eq_by_cmp text_cmp t u ≡ true
same_text t u same = ap (λ x. eq_by_cmp text_cmp t x) (sym same) ∙ ap is_eq (tied_itself texts_total t)

kept_or_before : (t : Tally) (s p : List ℕ) (m : ℕ) (s' p' : List ℕ) (n : ℕ)
    → get_under (put_under t s p m) s' p' ≡ Some n
    → ((s' ≡ s) × (p' ≡ p) × (m ≡ n)) ⊎ ((s' ≡ s → p' ≡ p → ⊥) × (get_under t s' p' ≡ Some n))
kept_or_before t s p m s' p' n e =
    elim (put_or_before (eq_by_cmp text_cmp s' s) (eq_by_cmp text_cmp p' p) m n (get_under t s' p')
    (sym (get_put_under t s p m s' p') ∙ e)) [
      | inl here ↦ inl (tells_apart texts_exact s' s here.0, tells_apart texts_exact p' p here.1, here.2)
      | inr before ↦ inr ((λ shelf path. before.0 (same_text s' s shelf) (same_text p' p path)), before.1)
    ]

count_same : (w : World) (s p s' p' : List ℕ) → s' ≡ s → p' ≡ p → count w s p ≡ count w s' p'
count_same w s p s' p' shelf path = ap (λ x. count w x p) (sym shelf) ∙ ap (count w s') (sym path)

-- one more count that is right
put_counts : (w : World) (t : Tally) (s p : List ℕ) (m : ℕ) → AreCounts w t → m ≡ count w s p
    → AreCounts w (put_under t s p m)
put_counts w t s p m right is s' p' n e =
    elim (kept_or_before t s p m s' p' n e) [
      | inl here ↦ sym here.2 ∙ (is ∙ count_same w s p s' p' here.0 here.1)
      | inr before ↦ right s' p' n before.1
    ]

pub kept_counts : (w : World) (t after : Tally) (s p : List ℕ) (m : ℕ)
    → (after ≡ put_under t s p m) ⊎ (after ≡ map.empty) → AreCounts w t → m ≡ count w s p → AreCounts w after
kept_counts w t after s p m (inl put) right is = subst (AreCounts w) (sym put) (put_counts w t s p m right is)
kept_counts w t after s p m (inr none) right is = empty_counts w after none

-- ---- one more entry, at a place that was free

module _ (w : World) (q : Place) (e : Entry) where
  count_elsewhere : (s p : List ℕ) → (s ≡ q.shelf → p ≡ q.path → ⊥) → count (with_entry w q e) s p ≡ count w s p
  count_elsewhere s p apart =
      let fails : bytes_eq q.shelf s && bytes_eq q.path p ≡ false =
      false_from_ne_true _ (λ h. let it = and_parts (bytes_eq q.shelf s) (bytes_eq q.path p) h in
      apart (sym (text_same q.shelf s it.0)) (sym (text_same q.path p it.1))) in
      ap map.len (goes places_total places_exact (λ r. bytes_eq r.shelf s && bytes_eq r.path p) w.entries q e fails)

  module _ (free : map.get w.entries q ≡ None) where
    count_here : count (with_entry w q e) q.shelf q.path ≡ count w q.shelf q.path + 1
    count_here =
        let test : Place → Bool = λ r. bytes_eq r.shelf q.shelf && bytes_eq r.path q.path in
        let passes : test q ≡ true = rw (text_self q.shelf, text_self q.path) refl in
        let none : map.contains_key (map.retain_keys w.entries test) q ≡ false =
        ap is_some (map.get-retain_keys w.entries test q (λ x h. test_alike test q x h)
        ∙ (ap (λ b. cond b (map.get w.entries q) None) passes ∙ free)) in
        ap map.len (stays places_total places_exact test w.entries q e passes)
        ∙ (map.len-insert places_total (map.retain_keys w.entries test) q e
        ∙ ap (λ b. cond b (count w q.shelf q.path) (count w q.shelf q.path + 1)) none)

    pub raised_counts : (t after : Tally) (n : ℕ) → get_under t q.shelf q.path ≡ Some n
        → (after ≡ put_under t q.shelf q.path (n + 1)) ⊎ (after ≡ map.empty)
        → AreCounts w t → AreCounts (with_entry w q e) after
    raised_counts t after n kept (inr none) right = empty_counts (with_entry w q e) after none
    raised_counts t after n kept (inl put) right = subst (AreCounts (with_entry w q e)) (sym put) (λ s p m at.
        elim (kept_or_before t q.shelf q.path (n + 1) s p m at) [
          | inl here ↦ sym here.2 ∙ (ap (λ k. k + 1) (right q.shelf q.path n kept)
              ∙ (sym count_here ∙ count_same (with_entry w q e) q.shelf q.path s p here.0 here.1))
          | inr before ↦ right s p m before.1 ∙ sym (count_elsewhere s p before.0)
        ])

  pub other_counts : (t : Tally) → get_under t q.shelf q.path ≡ None → AreCounts w t → AreCounts (with_entry w q e) t
  other_counts t none right s p n at =
      right s p n at ∙ sym
      (count_elsewhere s p (λ shelf path. let e : ◌≡◌ {A = Option ℕ} None (Some n) = sym none
      ∙ (ap (λ x. get_under t x q.path) (sym shelf) ∙ (ap (get_under t s) (sym path) ∙ at)) in absurd cc))
