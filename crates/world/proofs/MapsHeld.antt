-- A map of texts without the entries whose values fail a test.
use Rattle.std.proofs.Common.{◌≡◌, List, ℕ, [], ◌∷◌, Bool, true, false, not, cond, refl, ◌∙◌, sym, ap, Option, Some}
use Rattle.std.proofs.Common.{None}
use Rattle.std.proofs.Common.{filter}
use Rattle.std.specs.Prelude.{String, string_bytes, bytes_eq}
use Rattle.std.specs.List.{IsDistinct}
use Rattle.std.specs.Map.{lookup, keys_of}
use Rattle.std.specs.BTreeMap.{BTreeMap, is_at, get_by_text, IsOrdered}
use Rattle.std.specs.String.{string_cmp}
use Rattle.std.specs.Ordering.{eq_by_cmp, nat_cmp}
use Rattle.std.specs.Cmp.Lexicographic.{slice_cmp}
use Rattle.std.specs.FinMap as map
use Rattle.std.proofs.lemmas.Map.Entries.{option_filter}
use Rattle.std.proofs.lemmas.Map.Keys.{IsDistinct-head, IsDistinct-tail, IsDistinct-from_sorted}
use Rattle.std.proofs.lemmas.Map.Views.{tells_apart}
use Rattle.world.specs.declared.entry.Holder.{Holder}
use Rattle.world.specs.FinMaps.{by_text}
use Rattle.world.specs.World.{text_cmp, is_held_on}
use Rattle.world.proofs.MapsTexts.{absent, get_text}
use Rattle.world.proofs.Orders.{texts_total, texts_exact}
use Rattle.world.proofs.Parts.{text_alike}

module _ {Y X : Type 0} (p : X → Bool) (t : List ℕ) where
  abbrev at : List (String Y × X) → Option X
  at es = lookup (is_at (λ k. slice_cmp nat_cmp t (string_bytes k))) es

  none_later : (e : String Y × X) (es : List (String Y × X)) → IsDistinct (eq_by_cmp string_cmp) (keys_of (e ∷ es))
      → eq_by_cmp text_cmp t (string_bytes e.0) ≡ true → at es ≡ None
  none_later e es apart here =
      ap (λ u. lookup (is_at (λ k. slice_cmp nat_cmp u (string_bytes k))) es)
      (tells_apart texts_exact t (string_bytes e.0) here)
      ∙ absent e.0 es (IsDistinct-head _ e.0 (keys_of es) apart)

  -- what stands at a text of the entries that pass the test
  at_filtered : (es : List (String Y × X)) → IsDistinct (eq_by_cmp string_cmp) (keys_of es)
      → at (filter (λ e. p e.1) es) ≡ option_filter p (at es)
  at_filtered [] apart = refl
  at_filtered (e ∷ es) apart =
      let rest : List (String Y × X) = filter (λ e. p e.1) es in
      let later : at rest ≡ option_filter p (at es) = at_filtered es (IsDistinct-tail _ e.0 (keys_of es) apart) in
      elim (p e.1) as (λ b. p e.1 ≡ b
      → at (cond b (e ∷ rest) rest)
      ≡ option_filter p (cond (eq_by_cmp text_cmp t (string_bytes e.0)) (Some e.1) (at es))) [
        | true ↦ λ passes. elim (eq_by_cmp text_cmp t (string_bytes e.0)) as
            (λ b. cond b (Some e.1) (at rest) ≡ option_filter p (cond b (Some e.1) (at es))) [
              | true ↦ sym (ap (λ b. cond b (Some e.1) None) passes)
              | false ↦ later
            ]
        | false ↦ λ fails. elim (eq_by_cmp text_cmp t (string_bytes e.0)) as
            (λ b. eq_by_cmp text_cmp t (string_bytes e.0) ≡ b
            → at rest ≡ option_filter p (cond b (Some e.1) (at es))) [
              | true ↦ λ here. later ∙ ap (option_filter p) (none_later e es apart here)
                  ∙ sym (ap (λ b. cond b (Some e.1) None) fails)
              | false ↦ λ _. later
            ] refl
      ] refl

-- whether a holder is on another shelf
abbrev pub is_elsewhere : List ℕ → Holder → Bool
is_elsewhere s h = not (bytes_eq h.shelf s)

left_elsewhere : (s : List ℕ) (o : Option Holder)
    → option_filter (is_elsewhere s) o ≡ cond (not (is_held_on s o)) o None
left_elsewhere s None = refl
left_elsewhere s (Some h) = refl

-- what is left without the holders on a shelf
pub without_held : {Y : Type 0} (m n : BTreeMap (String Y) Holder) (s : List ℕ) → IsOrdered string_cmp m
    → n.entries ≡ filter (λ e. is_elsewhere s e.1) m.entries
    → by_text n.entries ≡ map.retain_keys (by_text m.entries) (λ k. not (is_held_on s (map.get (by_text m.entries) k)))
without_held m n s ordered left = map.same_map texts_total texts_exact _ _ (λ t.
    let test : List ℕ → Bool = λ k. not (is_held_on s (map.get (by_text m.entries) k)) in
    get_text n t ∙ ap (at (is_elsewhere s) t) left
    ∙ at_filtered (is_elsewhere s) t m.entries (IsDistinct-from_sorted string_cmp _ ordered)
    ∙ left_elsewhere s (get_by_text m t)
    ∙ sym (map.get-retain_keys (by_text m.entries) test t (text_alike test t)
    ∙ ap (λ o. cond (not (is_held_on s o)) o None) (get_text m t)))
