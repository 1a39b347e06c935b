-- What the queries of all keys and of all shelves answer.
use Rattle.std.proofs.Common.{◌≡◌, ◌↔◌, ◌∙◌, ℕ, true, List, [], ◌∷◌, Some, is_some, inl, inr, refl, sym, ap}
use Rattle.std.specs.FinMap as map
use Rattle.std.specs.FinSet as set
use Rattle.std.specs.FinSet.{same_set}
use Rattle.sqlite.specs.declared.types.Value.TheVariants.{Text}
use Rattle.sqlite.specs.Order.{Row, column}
use Rattle.sqlite.specs.Term.{Term, col, eval_all}
use Rattle.sqlite.specs.Tree.{Trees}
use Rattle.sqlite.specs.Query.{Query}
use Rattle.sqlite.specs.Program.{overlay}
use Rattle.sqlite.specs.Effect.{Database, Reads}
use Rattle.world.specs.World.{World, text_cmp}
use Rattle.world.proofs.Orders.{texts_total, texts_exact}
use Rattle.world.proofs.SeenVersions.{some_of}
use Rattle.tables.specs.Means.{Means, Tabulates}
use Rattle.tables.proofs.Maps.{no_text}
use Rattle.statements.specs.Lookup.{lookup, AreFound}
use Rattle.statements.specs.Lists.{AddsTexts, IsShown}
use Rattle.statements.proofs.LookupLemmas.{asks, all_found}
use Rattle.statements.proofs.VisibleLemmas.{same_truth}
use Rattle.keyring.specs.Named.{keys_in, shelves_in}

-- the query of the first column of a table
abbrev pub first_column : ℕ → Query
first_column tree = lookup tree [] (col 1 1 ∷ [])

-- a table has a row for each key of a map, and shows it in its first column
module _ {X : Type 0} (m : map.FinMap text_cmp X) (IsRow : Row → List ℕ × X → Type 0)
    (shows : (row : Row) (it : List ℕ × X) → IsRow row it → column row 1 ≡ Text it.0)
    (db : Database) (tree : ℕ) (table : Tabulates IsRow (db.trees tree) (λ it. map.get m it.0 ≡ Some it.1))
    (out : List Row) where
  shown : AreFound (db.trees tree) [] (col 1 1 ∷ []) [] out → (t : List ℕ)
      → IsShown out t ↔ (map.contains_key m t ≡ true)
  shown found t = (
    λ is.
        let row = found.sound is.0 is.1 in
        let it = table.each row.0 row.1 in
        let same : it.0.0 ≡ t = let e = sym (shows row.0 it.0 it.1)
        ∙ (sym (ap (λ (r : Row). column r 0) row.3) ∙ is.2) in cc in
        ap is_some (ap (map.get m) (sym same) ∙ it.2),
    λ h.
        let e = (some_of (map.get m t)).0 h in
        let it = table.found (t, e.0) e.1 in
        (eval_all (col 1 1 ∷ []) ([] ∷ it.0 ∷ []), found.complete it.0 it.1 refl, shows it.0 (t, e.0) it.2),
  )

  has_key : (t : List ℕ) → set.contains (set.from_list {R = text_cmp} (map.keys m)) t ≡ map.contains_key m t
  has_key t = set.contains-from_list texts_total (map.keys m) t ∙ sym (map.contains_key-keys m t)

  keys_of_map : AreFound (db.trees tree) [] (col 1 1 ∷ []) [] out → (texts : set.FinSet text_cmp)
      → AddsTexts out set.empty texts → texts ≡ set.from_list (map.keys m)
  keys_of_map found texts adds = same_set texts_total texts_exact texts (set.from_list (map.keys m)) (λ t.
      same_truth (set.contains texts t) (set.contains (set.from_list {R = text_cmp} (map.keys m)) t) (
        λ h. has_key t ∙ elim ((adds t).0 h) [ inl none ↦ absurd (no_text t none) | inr is ↦ (shown found t).0 is ],
        λ h. (adds t).1 (inr ((shown found t).1 (sym (has_key t) ∙ h))),
      ))

module _ (db : Database) (w : World) (means : Means db.trees w) (out : List Row) (texts : set.FinSet text_cmp)
    (adds : AddsTexts out set.empty texts) where
  pub all_keys : Reads (asks (first_column 4)) db [] out → texts ≡ keys_in w
  all_keys read = keys_of_map w.keys _ (λ row it is. is.0) db 4 means.access out
      (all_found [] db 4 [] (col 1 1 ∷ []) [] (λ _. refl) out read) texts adds

  pub all_shelves : Reads (asks (first_column 2)) db [] out → texts ≡ shelves_in w
  all_shelves read = keys_of_map w.shelves _ (λ row it is. is.0) db 2 means.shelves out
      (all_found [] db 2 [] (col 1 1 ∷ []) [] (λ _. refl) out read) texts adds
