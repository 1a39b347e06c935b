-- Maps of texts in a map of texts.
use Rattle.std.proofs.Common.{◌≡◌, ℕ, List, true, false, cond, refl, ◌∙◌, sym, ap, Some, None, Option}
use Rattle.std.specs.Prelude.{unwrap_or, option_and_then}
use Rattle.std.specs.Ordering.{eq_by_cmp}
use Rattle.std.specs.FinMap as map
use Rattle.std.proofs.lemmas.Map.Views.{tells_apart}
use Rattle.world.specs.World.{text_cmp}
use Rattle.world.specs.FinMaps.{map_at, get_under, put_under}
use Rattle.world.proofs.Orders.{texts_total, texts_exact}
use Rattle.world.proofs.MapsTexts.{put_again}

-- the steps of a lookup by two texts
module _ {X : Type 0} (m : map.FinMap text_cmp (map.FinMap text_cmp X)) (t u : List ℕ) where
  pub nothing_under : None ≡ map.get m t → None ≡ get_under m t u
  nothing_under e = ap (option_and_then (λ i. map.get i u)) e

  pub something_under : (inner : map.FinMap text_cmp X) → Some inner ≡ map.get m t → map.get inner u ≡ get_under m t u
  something_under inner e = ap (option_and_then (λ i. map.get i u)) e

module _ {X : Type 0} (m : map.FinMap text_cmp (map.FinMap text_cmp X)) (t : List ℕ)
    {inner after : map.FinMap text_cmp X} {n : map.FinMap text_cmp (map.FinMap text_cmp X)} where
  -- a value put into the map that stands at a text
  pub put_found : (u : List ℕ) (x : X) → Some inner ≡ map.get m t → n ≡ map.insert m t after
      → after ≡ map.insert inner u x → n ≡ put_under m t u x
  put_found u x found lent put = lent
      ∙ ap (map.insert m t) (put
      ∙ ap (λ (o : Option (map.FinMap text_cmp X)). map.insert (unwrap_or o map.empty) u x) found)

  -- nothing put there
  pub same_found : Some inner ≡ map.get m t → n ≡ map.insert m t after → after ≡ inner → n ≡ m
  same_found found lent same = lent ∙ ap (map.insert m t) same ∙ put_again m t inner (sym found)

get_or_empty : {X : Type 0} (o : Option (map.FinMap text_cmp X)) (u : List ℕ)
    → map.get (unwrap_or o map.empty) u ≡ option_and_then (λ i. map.get i u) o
get_or_empty None u = map.get-empty text_cmp u
get_or_empty (Some i) u = refl

pub get_map_at : {X : Type 0} (m : map.FinMap text_cmp (map.FinMap text_cmp X)) (t u : List ℕ)
    → map.get (map_at m t) u ≡ get_under m t u
get_map_at m t u = get_or_empty (map.get m t) u

-- what two texts lead to after one more value
pub get_put_under : {X : Type 0} (m : map.FinMap text_cmp (map.FinMap text_cmp X)) (t u : List ℕ) (x : X)
    (t' u' : List ℕ)
    → get_under (put_under m t u x) t' u'
    ≡ cond (eq_by_cmp text_cmp t' t) (cond (eq_by_cmp text_cmp u' u) (Some x) (get_under m t' u'))
    (get_under m t' u')
get_put_under m t u x t' u' =
    ap (option_and_then (λ i. map.get i u')) (map.get-insert texts_total m t (map.insert (map_at m t) u x) t')
    ∙ elim (eq_by_cmp text_cmp t' t) as (λ b. eq_by_cmp text_cmp t' t ≡ b
    → option_and_then (λ i. map.get i u') (cond b (Some (map.insert (map_at m t) u x)) (map.get m t'))
    ≡ cond b (cond (eq_by_cmp text_cmp u' u) (Some x) (get_under m t' u')) (get_under m t' u')) [
      | true ↦ λ same. map.get-insert texts_total (map_at m t) u x u'
          ∙ ap (cond (eq_by_cmp text_cmp u' u) (Some x))
          (get_map_at m t u' ∙ ap (λ y. get_under m y u') (sym (tells_apart texts_exact t' t same)))
      | false ↦ λ _. refl
    ] refl
