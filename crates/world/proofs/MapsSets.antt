-- Which texts a set has, as the finite set that it stands for.
use Rattle.std.proofs.Common.{◌≡◌, ℕ, List, [], ◌∷◌, Bool, true, false, cond, refl, ◌∙◌, sym, ap, length}
use Rattle.std.specs.Prelude.{String, map as each, string_bytes, ◌||◌}
use Rattle.std.specs.List.{list_any}
use Rattle.std.specs.BTreeSet.{BTreeSet, contains_text, UpdatesBy}
use Rattle.std.specs.BTreeMap.{is_at}
use Rattle.std.specs.String.{string_cmp}
use Rattle.std.specs.Ordering.{eq_by_cmp, is_eq, nat_cmp}
use Rattle.std.specs.Cmp.Lexicographic.{slice_cmp}
use Rattle.std.specs.FinSet as set
use Rattle.std.proofs.lemmas.List.{length-map}
use Rattle.std.specs.List.Sorted.{IsStrictlySortedBy}
use Rattle.std.proofs.lemmas.Map.Text.{btree_set_updates_text}
use Rattle.world.specs.World.{text_cmp}
use Rattle.world.specs.FinMaps.{texts}
use Rattle.world.specs.Lines.{in_order}
use Rattle.world.proofs.InOrder.{in_order-from_list, rising, no_keys, nothing_there}
use Rattle.world.proofs.Orders.{texts_total, texts_exact}
use Rattle.world.proofs.MapsTexts.{same_text}

one_more : (b x : Bool) → cond b true x ≡ (b || x)
one_more true x = refl
one_more false x = refl

module _ {Y : Type 0} where
  any_text : (ks : List (String Y)) (t : List ℕ)
      → list_any (eq_by_cmp text_cmp t) (each string_bytes ks)
      ≡ list_any (is_at (λ k. slice_cmp nat_cmp t (string_bytes k))) ks
  any_text [] t = refl
  any_text (k ∷ ks) t = ap (λ b. is_eq (text_cmp t (string_bytes k)) || b) (any_text ks t)

  -- whether a text is there
  pub contains_as_set : (s : BTreeSet (String Y)) (t : List ℕ) → set.contains (texts s.keys) t ≡ contains_text s t
  contains_as_set s t = set.contains-from_list texts_total _ t ∙ any_text s.keys t

  -- one more text
  pub insert_as_set : (s n : BTreeSet (String Y)) (k : List ℕ)
      → UpdatesBy string_cmp (λ t. slice_cmp nat_cmp k (string_bytes t)) s n true
      → texts n.keys ≡ set.insert (texts s.keys) k
  insert_as_set s n k updates = set.same_set texts_total texts_exact _ _ (λ t.
      contains_as_set n t ∙ btree_set_updates_text k s n true updates t
      ∙ ap (λ b. cond b true (contains_text s t)) (same_text k t)
      ∙ one_more (eq_by_cmp text_cmp t k) (contains_text s t)
      ∙ sym (set.contains-insert texts_total (texts s.keys) k t
      ∙ ap (λ b. eq_by_cmp text_cmp t k || b) (contains_as_set s t)))

  -- whether no text is there
  pub none_there : (ks : List (String Y)) → texts ks ≡ set.empty → length ks ≡ 0
  none_there ks e = sym (length-map ks string_bytes) ∙ no_keys texts_total (each string_bytes ks) e

  pub none_left : (ks : List (String Y)) → length ks ≡ 0 → texts ks ≡ set.empty
  none_left ks e = nothing_there texts_total (each string_bytes ks) (length-map ks string_bytes ∙ e)

  -- the texts in order
  pub texts_in_order : (ks : List (String Y)) → IsStrictlySortedBy string_cmp ks
      → in_order (texts ks) ≡ each string_bytes ks
  texts_in_order ks up = in_order-from_list texts_total texts_exact (each string_bytes ks)
      (rising text_cmp string_bytes ks up)
