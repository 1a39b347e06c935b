-- What the queries of versions and of paths answer.
use Rattle.std.proofs.Common.{◌≡◌, ◌⊎◌, ◌↔◌, ◌∙◌, ◌||◌, ℕ, Bool, true, false, List, [], ◌∷◌, ◌++◌, Some, is_some, inl}
use Rattle.std.proofs.Common.{inr, refl, sym, ap, subst}
use Rattle.std.specs.FinMap as map
use Rattle.std.specs.FinSet as set
use Rattle.std.specs.FinSet.{same_set}
use Rattle.std.proofs.lemmas.Bool.{and_parts, or_cases, or_left, or_right}
use Rattle.sqlite.specs.declared.types.Value.TheVariants.{Text}
use Rattle.sqlite.specs.Collation.TheVariants.{Binary}
use Rattle.sqlite_sql.specs.declared.ops.BinaryOp.TheVariants.{Compare}
use Rattle.sqlite_sql.specs.declared.ops.CompareOp.TheVariants.{Eq}
use Rattle.sqlite.specs.Order.{Row, column}
use Rattle.sqlite.specs.Term.{Term, col, op2, eval_all}
use Rattle.sqlite.specs.Query.{Query}
use Rattle.sqlite.specs.Effect.{Database, Reads}
use Rattle.sqlite_rules.proofs.ListLemmas.{has_left, has_right, has_either}
use Rattle.world.specs.declared.entry.Entry.{Entry}
use Rattle.world.specs.World.{World, place, text_cmp}
use Rattle.world.specs.Visible.{versions_among, versions_on, paths_among, paths_on}
use Rattle.world.proofs.Orders.{texts_total, texts_exact}
use Rattle.world.proofs.InOrder.{turned}
use Rattle.world.proofs.Sound.{still}
use Rattle.world.proofs.Seen.{contains_among, path_among}
use Rattle.world.proofs.SeenVersions.{some_of}
use Rattle.tables.specs.Means.{Means, IsAt}
use Rattle.statements.specs.Lookup.{lookup, AreFound}
use Rattle.statements.specs.Lists.{AddsTexts, IsShown}
use Rattle.tables.proofs.Maps.{text_put, text_splits}
use Rattle.tables.proofs.ValueLemmas.{equals_text, equals_itself}
use Rattle.statements.proofs.LookupLemmas.{asks, all_found}
use Rattle.tables.proofs.CountedRows.{same_place}

-- ---- the texts that rows show

pub same_truth : (a b : Bool) → ((a ≡ true) ↔ (b ≡ true)) → a ≡ b
same_truth true true h = refl
same_truth true false h = sym (h.0 refl)
same_truth false true h = h.1 refl
same_truth false false h = refl

-- if the texts that the rows show are the members of a set, that set is added
set_added : (rows : List Row) (more old new : set.FinSet text_cmp)
    → ((t : List ℕ) → IsShown rows t ↔ (set.contains more t ≡ true)) → AddsTexts rows old new → new ≡ set.union more old
set_added rows more old new shown adds = same_set texts_total texts_exact new (set.union more old) (λ t.
    let either = set.contains-union texts_total more old t in
    same_truth (set.contains new t) (set.contains (set.union more old) t) (
      λ h. either ∙ elim ((adds t).0 h) [ inl was ↦ or_right _ _ was | inr is ↦ or_left _ _ ((shown t).0 is) ],
      λ h. (adds t).1 (elim (or_cases (set.contains more t) _ (sym either ∙ h)) [
        | inl is ↦ inr ((shown t).1 is)
        | inr was ↦ inl was
      ]),
    ))

-- ---- the versions of a path on a shelf

abbrev by_path : List Term
by_path = op2 (Compare Eq Binary) (col 1 2) (col 0 0) ∷ op2 (Compare Eq Binary) (col 1 3) (col 0 1) ∷ []

abbrev pub versions_query : Query
versions_query = lookup 6 by_path (col 1 4 ∷ [])

module _ (shelf path : List ℕ) (db : Database) (w : World) (means : Means db.trees w) (out : List Row) where
  abbrev params : Row
  params = Text shelf ∷ Text path ∷ []

  found : Reads (asks versions_query) db params out → AreFound (db.trees 6) by_path (col 1 4 ∷ []) params out
  found read = all_found params db 6 by_path (col 1 4 ∷ []) [] (λ _. refl) out read

  versions_sound : AreFound (db.trees 6) by_path (col 1 4 ∷ []) params out → (v : List ℕ) → IsShown out v
      → (e : Entry) × (map.get w.entries (place shelf path v) ≡ Some e)
  versions_sound found v shown =
      let row = found.sound shown.0 shown.1 in
      let it = means.entries.each row.0 row.1 in
      let one = and_parts _ _ row.2 in
      let two = and_parts _ _ one.1 in
      let is : column row.0 4 ≡ Text v = sym (ap (λ (r : Row). column r 0) row.3) ∙ shown.2 in
      let at : IsAt row.0 (place shelf path v) =
      (equals_text (column row.0 2) shelf one.0, equals_text (column row.0 3) path two.0, is) in
      (it.0.1, ap (map.get w.entries) (sym (same_place row.0 it.0.0 (place shelf path v) it.1.place at)) ∙ it.2)

  versions_complete : AreFound (db.trees 6) by_path (col 1 4 ∷ []) params out → (v : List ℕ)
      → (e : Entry) × (map.get w.entries (place shelf path v) ≡ Some e) → IsShown out v
  versions_complete found v holds =
      let it = means.entries.found (place shelf path v, holds.0) holds.1 in
      let at = it.2.place in (
        eval_all (col 1 4 ∷ []) (params ∷ it.0 ∷ []),
        found.complete it.0 it.1 (rw (at.0, at.1, equals_itself shelf, equals_itself path) refl),
        at.2,
      )

  abbrev versions : set.FinSet text_cmp
  versions = versions_among shelf path (map.entries w.entries)

  versions_shown : AreFound (db.trees 6) by_path (col 1 4 ∷ []) params out → (v : List ℕ)
      → IsShown out v ↔ (set.contains versions v ≡ true)
  versions_shown found v =
      let there : set.contains versions v ≡ is_some (map.get w.entries (place shelf path v)) =
      contains_among shelf path v (map.entries w.entries)
      ∙ ap is_some (sym (map.get-entries w.entries (place shelf path v))) in
      let some = some_of (map.get w.entries (place shelf path v)) in
      (λ shown. there ∙ some.1 (versions_sound found v shown), λ h. versions_complete found v (some.0 (sym there ∙ h)))

  pub versions_added : (old new : set.FinSet text_cmp) → Reads (asks versions_query) db params out
      → AddsTexts out old new → new ≡ set.union versions old
  versions_added old new read = set_added out versions old new (versions_shown (found read))

-- ---- the paths on a shelf

abbrev by_shelf : List Term
by_shelf = op2 (Compare Eq Binary) (col 1 2) (col 0 0) ∷ []

abbrev pub paths_query : Query
paths_query = lookup 6 by_shelf (col 1 3 ∷ [])

module _ (shelf : List ℕ) (db : Database) (w : World) (means : Means db.trees w) (out : List Row) where
  found_paths : Reads (asks paths_query) db (Text shelf ∷ []) out
      → AreFound (db.trees 6) by_shelf (col 1 3 ∷ []) (Text shelf ∷ []) out
  found_paths read = all_found (Text shelf ∷ []) db 6 by_shelf (col 1 3 ∷ []) [] (λ _. refl) out read

  paths_sound : AreFound (db.trees 6) by_shelf (col 1 3 ∷ []) (Text shelf ∷ []) out → (p : List ℕ) → IsShown out p
      → (v : List ℕ) × (e : Entry) × (map.get w.entries (place shelf p v) ≡ Some e)
  paths_sound found p shown =
      let row = found.sound shown.0 shown.1 in
      let it = means.entries.each row.0 row.1 in
      let one = and_parts _ _ row.2 in
      let is : column row.0 3 ≡ Text p = sym (ap (λ (r : Row). column r 0) row.3) ∙ shown.2 in
      let at : IsAt row.0 (place shelf p it.0.0.version) =
      (equals_text (column row.0 2) shelf one.0, is, it.1.place.2) in (
        it.0.0.version,
        it.0.1,
        ap (map.get w.entries) (sym (same_place row.0 it.0.0 (place shelf p it.0.0.version) it.1.place at)) ∙ it.2,
      )

  paths_complete : AreFound (db.trees 6) by_shelf (col 1 3 ∷ []) (Text shelf ∷ []) out → (p : List ℕ)
      → (v : List ℕ) × (e : Entry) × (map.get w.entries (place shelf p v) ≡ Some e) → IsShown out p
  paths_complete found p holds =
      let it = means.entries.found (place shelf p holds.0, holds.1) holds.2 in
      let at = it.2.place in (
        eval_all (col 1 3 ∷ []) ((Text shelf ∷ []) ∷ it.0 ∷ []),
        found.complete it.0 it.1 (rw (at.0, equals_itself shelf) refl),
        at.1,
      )

  abbrev paths : set.FinSet text_cmp
  paths = paths_among shelf (map.entries w.entries)

  paths_shown : AreFound (db.trees 6) by_shelf (col 1 3 ∷ []) (Text shelf ∷ []) out → (p : List ℕ)
      → IsShown out p ↔ (set.contains paths p ≡ true)
  paths_shown found p =
      let there = λ (v : List ℕ). ap is_some (map.get-entries w.entries (place shelf p v)) in
      let some = λ (v : List ℕ). some_of (map.get w.entries (place shelf p v)) in
      let among = path_among shelf p (map.entries w.entries) in (
        λ shown. let it = paths_sound found p shown in among.1 (it.0, sym (there it.0) ∙ (some it.0).1 (it.1, it.2)),
        λ h. let it = among.0 h in let e = (some it.0).0 (there it.0 ∙ it.1) in paths_complete found p (it.0, e.0, e.1),
      )

  pub paths_added : (old new : set.FinSet text_cmp) → Reads (asks paths_query) db (Text shelf ∷ []) out
      → AddsTexts out old new → new ≡ set.union paths old
  paths_added old new read = set_added out paths old new (paths_shown (found_paths read))

-- ---- shelf by shelf

-- it does not matter which set is added first
swapped : (a b c : set.FinSet text_cmp) → set.union a (set.union b c) ≡ set.union b (set.union a c)
swapped a b c = same_set texts_total texts_exact (set.union a (set.union b c)) (set.union b (set.union a c))
    (λ t. member a b t ∙ (turned (set.contains a t) (set.contains b t) (set.contains c t) ∙ sym (member b a t)))
  where
    member : (x y : set.FinSet text_cmp) (t : List ℕ)
        → set.contains (set.union x (set.union y c)) t ≡ (set.contains x t || (set.contains y t || set.contains c t))
    member x y t = set.contains-union texts_total x (set.union y c) t
        ∙ ap (λ h. set.contains x t || h) (set.contains-union texts_total y c t)

pub versions_more : (w : World) (ss : List (List ℕ)) (s p : List ℕ)
    → versions_on w (ss ++ s ∷ []) p ≡ set.union (versions_among s p (map.entries w.entries)) (versions_on w ss p)
versions_more w [] s p = refl
versions_more w (a ∷ ss) s p = ap (set.union (versions_among a p (map.entries w.entries))) (versions_more w ss s p)
    ∙ swapped _ _ _

pub paths_more : (w : World) (ss : List (List ℕ)) (s : List ℕ)
    → paths_on w (ss ++ s ∷ []) ≡ set.union (paths_among s (map.entries w.entries)) (paths_on w ss)
paths_more w [] s = refl
paths_more w (a ∷ ss) s = ap (set.union (paths_among a (map.entries w.entries))) (paths_more w ss s) ∙ swapped _ _ _

-- ---- row by row

pub nothing_more : (texts : set.FinSet text_cmp) → AddsTexts [] texts texts
nothing_more texts t = (λ h. inl h, λ either. elim either [ inl was ↦ was | inr shown ↦ absurd shown.1 ])

-- a set with the texts of some rows, and then the text of one more, has the texts of the rows with this row
pub one_more : (rows : List Row) (row : Row) (text : List ℕ) (old mid new : set.FinSet text_cmp)
    → column row 0 ≡ Text text → new ≡ set.insert mid text
    → AddsTexts rows old mid → AddsTexts (rows ++ row ∷ []) old new
one_more rows row text old mid new shows made adds t = (to t, from t)
  where
    to : (t : List ℕ) → set.contains new t ≡ true → (set.contains old t ≡ true) ⊎ IsShown (rows ++ row ∷ []) t
    to t h = elim (text_splits mid text t (subst (λ s. set.contains s t ≡ true) made h)) [
      | inl same ↦ inr (row, has_right rows (row ∷ []) row (inl refl), shows ∙ ap Text (sym same))
      | inr was ↦ elim ((adds t).0 was) [
        | inl before ↦ inl before
        | inr shown ↦ inr (shown.0, has_left rows (row ∷ []) shown.0 shown.1, shown.2)
      ]
    ]

    stays : (t : List ℕ) → set.contains mid t ≡ true → set.contains new t ≡ true
    stays t h = subst (λ s. set.contains s t ≡ true) (sym made) (still mid text t h)

    from : (t : List ℕ) → (set.contains old t ≡ true) ⊎ IsShown (rows ++ row ∷ []) t → set.contains new t ≡ true
    from t (inl before) = stays t ((adds t).1 (inl before))
    from t (inr shown) = elim (has_either rows (row ∷ []) shown.0 shown.1) [
      | inl was ↦ stays t ((adds t).1 (inr (shown.0, was, shown.2)))
      | inr (inl last) ↦ (let same : text ≡ t = let e = sym shows
          ∙ (ap (λ (r : Row). column r 0) (sym last) ∙ shown.2) in cc in
          subst (λ s. set.contains s t ≡ true) (sym made)
          (subst (λ x. set.contains (set.insert mid text) x ≡ true) same (text_put mid text)))
      | inr (inr none) ↦ absurd none
    ]
