-- Sets that get more texts.
use Rattle.std.proofs.Common.{◌≡◌, ℕ, List, [], ◌∷◌, Bool, true, false, refl, ◌∙◌, sym, ap}
use Rattle.std.specs.Prelude.{◌||◌, is_some}
use Rattle.std.specs.List.{list_any}
use Rattle.std.specs.Ordering.{eq_by_cmp}
use Rattle.std.specs.FinMap as map
use Rattle.std.specs.FinSet as set
use Rattle.world.specs.World.{text_cmp}
use Rattle.world.specs.FinMaps.{with_texts}
use Rattle.world.proofs.Orders.{texts_total, texts_exact}

pub or_turn : (a b c : Bool) → ((a || b) || c) ≡ (b || (a || c))
or_turn true true c = refl
or_turn true false c = refl
or_turn false b c = refl

or_false : (a : Bool) → (a || false) ≡ a
or_false true = refl
or_false false = refl

contains_more : (s : set.FinSet text_cmp) (ts : List (List ℕ)) (t : List ℕ)
    → set.contains (with_texts s ts) t ≡ (set.contains s t || list_any (eq_by_cmp text_cmp t) ts)
contains_more s [] t = sym (or_false (set.contains s t))
contains_more s (x ∷ ts) t =
    contains_more (set.insert s x) ts t
    ∙ ap (λ b. b || list_any (eq_by_cmp text_cmp t) ts) (set.contains-insert texts_total s x t)
    ∙ or_turn (eq_by_cmp text_cmp t x) (set.contains s t) _

-- the keys of a map, as a set
pub has_keys : {X : Type 0} (m : map.FinMap text_cmp X) (t : List ℕ)
    → set.contains (with_texts set.empty (map.keys m)) t ≡ is_some (map.get m t)
has_keys m t =
    contains_more set.empty (map.keys m) t
    ∙ ap (λ b. b || list_any (eq_by_cmp text_cmp t) (map.keys m)) (set.contains-empty text_cmp t)
    ∙ sym (map.contains_key-keys m t)

-- the texts of a list, put into the empty set
pub put_into_none : (ts : List (List ℕ)) → with_texts set.empty ts ≡ set.from_list ts
put_into_none ts = set.same_set texts_total texts_exact _ _ (λ t.
    contains_more set.empty ts t
    ∙ ap (λ b. b || list_any (eq_by_cmp text_cmp t) ts) (set.contains-empty text_cmp t)
    ∙ sym (set.contains-from_list texts_total ts t))

-- a set that gets the texts of a map becomes its union with a set of these texts
pub more_keys : {X : Type 0} (s u : set.FinSet text_cmp) (m : map.FinMap text_cmp X)
    → ((t : List ℕ) → set.contains u t ≡ is_some (map.get m t)) → with_texts s (map.keys m) ≡ set.union s u
more_keys s u m same = set.same_set texts_total texts_exact _ _ (λ t.
    contains_more s (map.keys m) t ∙ ap (λ b. set.contains s t || b) (sym (map.contains_key-keys m t) ∙ sym (same t))
    ∙ sym (set.contains-union texts_total s u t))

pub no_more : (s u : set.FinSet text_cmp) → ((t : List ℕ) → set.contains u t ≡ false) → s ≡ set.union s u
no_more s u none = set.same_set texts_total texts_exact _ _
    (λ t. sym (set.contains-union texts_total s u t ∙ ap (λ b. set.contains s t || b) (none t)
    ∙ or_false (set.contains s t)))

or_or : (a b c : Bool) → ((a || b) || c) ≡ (a || (b || c))
or_or true b c = refl
or_or false b c = refl

-- two sets put into a third, one after the other
pub both_sets : (s t u : set.FinSet text_cmp) → set.union (set.union s t) u ≡ set.union s (set.union t u)
both_sets s t u = set.same_set texts_total texts_exact _ _ (λ q.
    set.contains-union texts_total (set.union s t) u q
    ∙ ap (λ b. b || set.contains u q) (set.contains-union texts_total s t q)
    ∙ or_or (set.contains s q) (set.contains t q) (set.contains u q)
    ∙ sym (set.contains-union texts_total s (set.union t u) q
    ∙ ap (λ b. set.contains s q || b) (set.contains-union texts_total t u q)))

-- nothing put into a set, and a set put into an empty one
pub none_put : (s : set.FinSet text_cmp) → set.union s set.empty ≡ s
none_put s = sym (no_more s set.empty (λ q. set.contains-empty text_cmp q))

pub put_first : (s : set.FinSet text_cmp) → set.union set.empty s ≡ s
put_first s = set.same_set texts_total texts_exact _ _
    (λ q. set.contains-union texts_total set.empty s q
    ∙ ap (λ b. b || set.contains s q) (set.contains-empty text_cmp q))
