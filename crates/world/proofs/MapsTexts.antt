-- What a map of texts has at each text, as the finite map that it stands for.
use Rattle.std.proofs.Common.{◌≡◌, ℕ, ◌+◌, List, [], ◌∷◌, true, false, cond, refl, ◌∙◌, sym, ap, Some, None, Option}
use Rattle.std.proofs.Common.{length, arith}
use Rattle.std.specs.Prelude.{String, map as each, string_bytes, bytes_eq, is_some, IsSome, OnSome}
use Rattle.std.specs.Borrow.{MutBor}
use Rattle.std.specs.Option.{option_copied_mut}
use Rattle.std.proofs.lemmas.Map.Views.{tells_apart}
use Rattle.std.specs.List.{IsDistinct, AllByRecursion}
use Rattle.std.specs.Map.{lookup, keys_of}
use Rattle.std.specs.BTreeMap.{BTreeMap, is_at, get_by_text, IsOrdered, UpdatesBy}
use Rattle.std.specs.String.{string_cmp}
use Rattle.std.specs.Ordering.{eq_by_cmp, is_eq, nat_cmp}
use Rattle.std.specs.Cmp.{eq_by_cmp_equiv}
use Rattle.std.specs.Cmp.Lexicographic.{slice_cmp}
use Rattle.std.specs.FinMap as map
use Rattle.std.specs.FinMap.Entries.{below_all}
use Rattle.std.specs.List.Sorted.{IsStrictlySortedBy}
use Rattle.std.specs.declared.cmp.Ordering.TheVariants.{Less}
use lib.Dec.{T}
use Rattle.std.proofs.lemmas.Map.Text.{is_eq-slice_cmp, btree_map_updates_text}
use Rattle.std.proofs.lemmas.Map.Keys.{IsDistinct-head, IsDistinct-tail, IsDistinct-from_sorted}
use Rattle.world.specs.World.{text_cmp}
use Rattle.world.specs.FinMaps.{by_text}
use Rattle.world.proofs.InOrder.{both, less_is}
use Rattle.world.proofs.Orders.{texts_total, texts_exact}

-- whether two texts are equal, either way round
pub same_text : (k t : List ℕ) → bytes_eq k t ≡ eq_by_cmp text_cmp t k
same_text k t = sym (is_eq-slice_cmp k t) ∙ (eq_by_cmp_equiv texts_total).symm k t

module _ {Y X : Type 0} where
  find_text : (es : List (String Y × X)) (t : List ℕ)
      → map.find text_cmp t (each (λ e. (string_bytes e.0, e.1)) es)
      ≡ lookup (is_at (λ k. slice_cmp nat_cmp t (string_bytes k))) es
  find_text [] t = refl
  find_text (e ∷ es) t = ap (cond (is_eq (text_cmp t (string_bytes e.0))) (Some e.1)) (find_text es t)

  -- what stands at a text
  pub get_text : (m : BTreeMap (String Y) X) (t : List ℕ) → map.get (by_text m.entries) t ≡ get_by_text m t
  get_text m t = map.get-from_entries texts_total _ t ∙ find_text m.entries t

  -- one more text
  pub insert_text : (m n : BTreeMap (String Y) X) (k : List ℕ) (x : X)
      → UpdatesBy string_cmp (λ t. slice_cmp nat_cmp k (string_bytes t)) m n (Some x)
      → by_text n.entries ≡ map.insert (by_text m.entries) k x
  insert_text m n k x updates = map.same_map texts_total texts_exact _ _ (λ t.
      get_text n t ∙ btree_map_updates_text k m n (Some x) updates t
      ∙ ap (λ b. cond b (Some x) (get_by_text m t)) (same_text k t)
      ∙ sym (map.get-insert texts_total (by_text m.entries) k x t
      ∙ ap (cond (eq_by_cmp text_cmp t k) (Some x)) (get_text m t)))

  -- one text less
  pub remove_text : (m n : BTreeMap (String Y) X) (k : List ℕ)
      → UpdatesBy string_cmp (λ t. slice_cmp nat_cmp k (string_bytes t)) m n None
      → by_text n.entries ≡ map.remove (by_text m.entries) k
  remove_text m n k updates = map.same_map texts_total texts_exact _ _ (λ t.
      get_text n t ∙ btree_map_updates_text k m n None updates t
      ∙ ap (λ b. cond b None (get_by_text m t)) (same_text k t)
      ∙ sym (map.get-remove texts_total (by_text m.entries) k t
      ∙ ap (cond (eq_by_cmp text_cmp t k) None) (get_text m t)))

  pub absent : (k : String Y) (es : List (String Y × X))
      → AllByRecursion (λ y. eq_by_cmp string_cmp k y ≡ false) (keys_of es)
      → lookup (is_at (λ t. slice_cmp nat_cmp (string_bytes k) (string_bytes t))) es ≡ None
  absent k [] apart = refl
  absent k (e ∷ es) apart =
      ap (λ b. cond b (Some e.1) (lookup (is_at (λ t. slice_cmp nat_cmp (string_bytes k) (string_bytes t))) es)) apart.0
      ∙ absent k es apart.1

  len_distinct : (es : List (String Y × X)) → IsDistinct (eq_by_cmp string_cmp) (keys_of es)
      → map.len (by_text es) ≡ length es
  len_distinct [] apart = map.len-empty text_cmp X
  len_distinct (e ∷ es) apart =
      let none : map.get (by_text es) (string_bytes e.0) ≡ None =
      map.get-from_entries texts_total _ (string_bytes e.0) ∙ find_text es (string_bytes e.0)
      ∙ absent e.0 es (IsDistinct-head _ e.0 (keys_of es) apart) in
      map.len-insert texts_total (by_text es) (string_bytes e.0) e.1
      ∙ ap (λ o. cond (is_some o) (map.len (by_text es)) (map.len (by_text es) + 1)) none
      ∙ ap (λ n. n + 1) (len_distinct es (IsDistinct-tail _ e.0 (keys_of es) apart))
      ∙ omega arith

  -- how many texts it has
  pub len_text : (m : BTreeMap (String Y) X) → IsOrdered string_cmp m → map.len (by_text m.entries) ≡ length m.entries
  len_text m ordered = len_distinct m.entries (IsDistinct-from_sorted string_cmp _ ordered)

  -- ---- its texts in order

  all_below : (k : String Y) (es : List (String Y × X)) → AllByRecursion (λ y. string_cmp k y ≡ Less) (keys_of es)
      → T (below_all text_cmp (string_bytes k) (each (λ e. (string_bytes e.0, e.1)) es))
  all_below k [] above = tt
  all_below k (e ∷ es) above = both _ _ (less_is (string_cmp k e.0) above.0) (all_below k es above.1)

  rising_texts : (es : List (String Y × X)) → IsStrictlySortedBy string_cmp (keys_of es)
      → T (map.is_sorted text_cmp (each (λ e. (string_bytes e.0, e.1)) es))
  unfolding IsStrictlySortedBy
  rising_texts [] up = tt
  rising_texts (e ∷ es) up = both _ _ (all_below e.0 es up.0) (rising_texts es up.1)

  first_texts : (es : List (String Y × X))
      → each {A = List ℕ × X} (λ e. e.0) (each (λ e. (string_bytes e.0, e.1)) es) ≡ each string_bytes (keys_of es)
  first_texts [] = refl
  first_texts (e ∷ es) = ap (λ ts. string_bytes e.0 ∷ ts) (first_texts es)

  pub keys_text : (m : BTreeMap (String Y) X) → IsOrdered string_cmp m
      → map.keys (by_text m.entries) ≡ each string_bytes (keys_of m.entries)
  keys_text m ordered =
      let es = each (λ e. (string_bytes e.0, e.1)) m.entries in
      let up : T (map.is_sorted text_cmp es) = rising_texts m.entries ordered in
      ap map.keys (map.same_map texts_total texts_exact (map.from_entries es) (map.from_sorted es)
      (λ t. map.get-from_entries texts_total es t ∙ sym (map.get-from_sorted text_cmp es t up)))
      ∙ ap (each (λ e. e.0)) (map.entries-from_sorted text_cmp es up) ∙ first_texts m.entries

  pub same_entries : (m n : BTreeMap (String Y) X) → n ≡ m → by_text n.entries ≡ by_text m.entries
  same_entries m n e = ap (λ (t : BTreeMap (String Y) X). by_text t.entries) e

-- what follows where a value was found
pub at_some : {X P : Type 0} (r : Option (MutBor X)) {o : Option X} → option_copied_mut r ≡ o → (IsSome o → P)
    → OnSome r P
at_some None e go = tt
at_some (Some x) e go = go (sym (ap is_some e))

-- what stands at a text is put there again
pub put_again : {X : Type 0} (m : map.FinMap text_cmp X) (k : List ℕ) (x : X) → map.get m k ≡ Some x
    → map.insert m k x ≡ m
put_again m k x e = map.same_map texts_total texts_exact _ _ (λ t.
    map.get-insert texts_total m k x t
    ∙ elim (eq_by_cmp text_cmp t k) as (λ b. eq_by_cmp text_cmp t k ≡ b → cond b (Some x) (map.get m t) ≡ map.get m t) [
      | true ↦ λ same. sym e ∙ ap (map.get m) (sym (tells_apart texts_exact t k same))
      | false ↦ λ _. refl
    ] refl)
