-- The orders of texts and of places distinguish all of them, and what a map has after an insertion.
use Rattle.std.proofs.Common.{◌≡◌, ℕ, List, Bool, true, false, cond, refl, ◌∙◌, sym, ap, Some}
use Rattle.std.specs.Prelude.{bytes_eq}
use Rattle.std.specs.Ordering.{ordering_then, is_eq, eq_by_cmp}
use Rattle.std.specs.declared.cmp.Ordering.{Ordering}
use Rattle.std.specs.declared.cmp.Ordering.TheVariants.{Equal}
use Rattle.std.specs.Cmp.{IsTotalOrder, tied_itself}
use Rattle.std.specs.FinMap as map
use Rattle.std.proofs.lemmas.Cmp.{on_total, then_total, nat_list_cmp_total}
use Rattle.std.proofs.lemmas.Map.Lookups.{exact_bytes, exact_pairs}
use Rattle.std.proofs.lemmas.Map.Views.{tells_apart}
use Rattle.std.proofs.lemmas.Bool.{true≢false, false_from_ne_true}
use Rattle.std.proofs.lemmas.Slice.Eq.{bytes_eq-Decides}
use Rattle.world.specs.declared.entry.Place.{Place}
use Rattle.world.specs.World.{text_cmp, place_cmp}

pub texts_total : IsTotalOrder text_cmp
texts_total = nat_list_cmp_total

pub places_total : IsTotalOrder place_cmp
places_total = then_total (on_total (λ (q : Place). q.shelf) texts_total)
    (then_total (on_total (λ (q : Place). q.path) texts_total) (on_total (λ (q : Place). q.version) texts_total))

pub texts_exact : map.IsAntisymmetric text_cmp
texts_exact = exact_bytes

abbrev pair_cmp : (x y : List ℕ × List ℕ) → Ordering
pair_cmp x y = ordering_then (text_cmp x.0 y.0) (text_cmp x.1 y.1)

pub places_exact : map.IsAntisymmetric place_cmp
places_exact a b e =
    ap (λ (q : List ℕ × (List ℕ × List ℕ)). record { shelf = q.0; path = q.1.0; version = q.1.1 })
    (exact_pairs text_cmp pair_cmp exact_bytes (exact_pairs text_cmp text_cmp exact_bytes exact_bytes)
    (a.shelf, (a.path, a.version)) (b.shelf, (b.path, b.version)) e)

pub text_self : (t : List ℕ) → bytes_eq t t ≡ true
text_self t = (bytes_eq-Decides t t).1 refl

pub text_same : (a b : List ℕ) → bytes_eq a b ≡ true → a ≡ b
text_same a b = (bytes_eq-Decides a b).0

pub text_apart : (a b : List ℕ) → bytes_eq a b ≡ false → a ≡ b → ⊥
text_apart a b e same = true≢false (sym ((bytes_eq-Decides a b).1 same) ∙ e)

module _ {K X : Type 0} {R : K → K → Ordering} (o : IsTotalOrder R) where
  -- what stands where something was put
  pub get_put : (m : map.FinMap R X) (q : K) (x : X) → map.get (map.insert m q x) q ≡ Some x
  get_put m q x = map.get-insert o m q x q ∙ ap (λ r. cond (is_eq r) (Some x) (map.get m q)) (tied_itself o q)

  -- an insertion changes nothing at another key
  pub get_elsewhere : map.IsAntisymmetric R → (m : map.FinMap R X) (q : K) (x : X) (p : K) → (p ≡ q → ⊥)
      → map.get (map.insert m q x) p ≡ map.get m p
  get_elsewhere exact m q x p apart = map.get-insert o m q x p
      ∙ ap (λ b. cond b (Some x) (map.get m p)) (false_from_ne_true _ (λ e. apart (tells_apart exact p q e)))

  -- maps that agree at a key agree there when the same is put into both
  pub get_put_both : (m n : map.FinMap R X) (q : K) (x : X) (p : K) → map.get m p ≡ map.get n p
      → map.get (map.insert m q x) p ≡ map.get (map.insert n q x) p
  get_put_both m n q x p same = map.get-insert o m q x p ∙ ap (λ g. cond (eq_by_cmp R p q) (Some x) g) same
      ∙ sym (map.get-insert o n q x p)

-- places that tie are one, so a test answers alike at both
pub test_alike : (f : Place → Bool) (q x : Place) → place_cmp q x ≡ Equal → f x ≡ f q
test_alike f q x e = ap f (sym (places_exact q x e))
