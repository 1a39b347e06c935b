-- Which shelves a shelf sees.
use Rattle.std.proofs.Common.{◌≡◌, ℕ, List, [], ◌∷◌, true, false, cond, refl, sym, ap, subst, inl, inr, ◌⊎◌, ◌∙◌}
use Rattle.std.proofs.Common.{Option, Some, None}
use Rattle.std.specs.Prelude.{bytes_eq, ◌||◌, is_some}
use Rattle.std.specs.FinMap as map
use Rattle.std.proofs.lemmas.Bool.{true≢false, or_cases, or_left, or_right}
use Rattle.world.specs.World.{World, IsWorld, common, group_in, group_of, above, chain, is_among, sees}
use Rattle.world.proofs.Orders.{text_self, text_same}

pub sees_itself : (w : World) (s : List ℕ) → sees w s s ≡ true
sees_itself w s = ap (λ b. b || is_among (above (group_of w s)) s) (text_self s)

common_above : (o : Option (List ℕ)) → is_among (above o) common ≡ true
common_above None = ap (λ b. b || false) (text_self common)
common_above (Some g) = or_right (bytes_eq common g) _ (ap (λ b. b || false) (text_self common))

pub sees_common : (w : World) (s : List ℕ) → sees w s common ≡ true
sees_common w s = or_right (bytes_eq common s) _ (common_above (group_of w s))

pub only_common : (u : List ℕ) → is_among (common ∷ []) u ≡ true → u ≡ common
only_common u e = elim (or_cases (bytes_eq u common) false e) [
  | inl c ↦ text_same u common c
  | inr never ↦ absurd (true≢false (sym never))
]

-- ---- groups

-- the group of a shelf is its parent
in_group : (o : Option (Option (List ℕ))) (g : List ℕ) → group_in o ≡ Some g → o ≡ Some (Some g)
in_group None g e = cc e
in_group (Some None) g e = cc e
in_group (Some (Some parent)) g e =
    elim (bytes_eq parent common) as (λ b. cond b None (Some parent) ≡ Some g → Some (Some parent) ≡ Some (Some g)) [
      | true ↦ λ never. cc never
      | false ↦ λ same. ap (λ (x : Option (List ℕ)). Some x) same
    ] e

pub parent_of : (w : World) (s g : List ℕ) → group_of w s ≡ Some g → map.get w.shelves s ≡ Some (Some g)
parent_of w s g e = in_group (map.get w.shelves s) g e

-- a parent is seen
parent_above : (parent : List ℕ) → is_among (above (group_in (Some (Some parent)))) parent ≡ true
parent_above parent =
    elim (bytes_eq parent common) as
    (λ b. bytes_eq parent common ≡ b → is_among (above (cond b None (Some parent))) parent ≡ true) [
      | true ↦ λ same. or_left (bytes_eq parent common) false same
      | false ↦ λ _. or_left (bytes_eq parent parent) _ (text_self parent)
    ] refl

pub sees_parent : (w : World) (s parent : List ℕ) → map.get w.shelves s ≡ Some (Some parent) → sees w s parent ≡ true
sees_parent w s parent e =
    or_right (bytes_eq parent s) _ (ap (λ o. is_among (above (group_in o)) parent) e ∙ parent_above parent)

-- what stands above a shelf has no parent
above_top : (w : World) → IsWorld w → (s t : List ℕ) (o : Option (List ℕ)) → group_of w s ≡ o
    → is_among (above o) t ≡ true → map.get w.shelves t ≡ Some None
above_top w is s t None e at = ap (map.get w.shelves) (only_common t at) ∙ is.has_common
above_top w is s t (Some g) e at =
    elim (or_cases (bytes_eq t g) _ at) [
      | inl here ↦ ap (map.get w.shelves) (text_same t g here) ∙ is.parents s g (parent_of w s g e)
      | inr rest ↦ ap (map.get w.shelves) (only_common t rest) ∙ is.has_common
    ]

-- what a shelf sees is itself, or has no parent
pub itself_or_top : (w : World) → IsWorld w → (s t : List ℕ) → sees w s t ≡ true
    → (t ≡ s) ⊎ (map.get w.shelves t ≡ Some None)
itself_or_top w is s t seen =
    elim (or_cases (bytes_eq t s) _ seen) [
      | inl here ↦ inl (text_same t s here)
      | inr up ↦ inr (above_top w is s t _ refl up)
    ]

-- a shelf that has no parent sees itself and common
top_sees : (w : World) (t u : List ℕ) → map.get w.shelves t ≡ Some None → sees w t u ≡ true → (u ≡ t) ⊎ (u ≡ common)
top_sees w t u top seen =
    elim (or_cases (bytes_eq u t) _ seen) [
      | inl here ↦ inl (text_same u t here)
      | inr rest ↦ inr (only_common u (subst (λ o. is_among (above (group_in o)) u ≡ true) top rest))
    ]

-- a shelf that is seen sees nothing else
pub sees_through : (w : World) → IsWorld w → (s t u : List ℕ) → sees w s t ≡ true → sees w t u ≡ true
    → sees w s u ≡ true
sees_through w is s t u st tu =
    elim (itself_or_top w is s t st) [
      | inl same ↦ subst (λ x. sees w x u ≡ true) same tu
      | inr top ↦ elim (top_sees w t u top tu) [
        | inl ut ↦ subst (λ x. sees w s x ≡ true) (sym ut) st
        | inr uc ↦ subst (λ x. sees w s x ≡ true) (sym uc) (sees_common w s)
      ]
    ]

-- where it stands, so does each that it sees
pub seen_stands : (w : World) (s u : List ℕ) → IsWorld w → map.contains_key w.shelves s ≡ true → sees w s u ≡ true
    → map.contains_key w.shelves u ≡ true
seen_stands w s u is stands seen =
    elim (itself_or_top w is s u seen) [
      | inl us ↦ ap (map.contains_key w.shelves) us ∙ stands
      | inr top ↦ ap is_some top
    ]

-- ---- the chains of two worlds

-- a shelf that has the same parent has the same chain
pub same_chain : (w x : World) (s : List ℕ) → map.get w.shelves s ≡ map.get x.shelves s → chain w s ≡ chain x s
same_chain w x s e = ap (λ o. s ∷ above (group_in o)) e

behind : (s : List ℕ) (us vs : List (List ℕ)) → s ∷ us ≡ s ∷ vs → us ≡ vs
behind s us vs e = cc e

-- where a shelf has the same chain in both, so has each that it sees
pub seen_chain : (w x : World) → IsWorld w → IsWorld x → (s t : List ℕ) → chain w s ≡ chain x s → sees w s t ≡ true
    → chain w t ≡ chain x t
seen_chain w x is_w is_x s t same seen =
    elim (or_cases (bytes_eq t s) _ seen) [
      | inl here ↦ subst (λ u. chain w u ≡ chain x u) (sym (text_same t s here)) same
      | inr up ↦
          let in_x : is_among (above (group_of x s)) t ≡ true =
          subst (λ us. is_among us t ≡ true) (behind s _ _ same) up in
          same_chain w x t (above_top w is_w s t _ refl up ∙ sym (above_top x is_x s t _ refl in_x))
    ]
