-- What the walks over the rows of the tables tell.
use Rattle.std.proofs.Common.{◌≡◌, ◌≤◌, ◌++◌, ◌⊎◌, ℕ, Bool, true, false, List, [], ◌∷◌, map, Option, Some, None, Ok}
use Rattle.std.proofs.Common.{Err, Result, OnOk}
use Rattle.std.proofs.Common.{IfOk, inl, inr, refl, sym, ap, subst, ◌∙◌, arith, Decides, true≢false, append_assoc, Less}
use Rattle.std.proofs.Common.{Equal, IsPermutation}
use Rattle.std.specs.Prelude.{Contains}
use Rattle.std.specs.List.{list_all}
use Rattle.std.specs.FinSet as set
use Rattle.std.specs.Ordering.{is_lt, ordering_then, int_cmp}
use Rattle.std.proofs.lemmas.Bool.{and_parts, and_from}
use Rattle.std.specs.declared.cmp.Ordering.{Ordering}
use Rattle.std.specs.Cmp.{IsTotalOrder, tied_itself}
use Rattle.std.specs.FinMap.{IsAntisymmetric}
use Rattle.std.proofs.lemmas.List.Sorted.{IsPermutation-sym}
use Rattle.sqlite.specs.declared.types.Value.{Value}
use Rattle.sqlite.specs.declared.types.Value.TheVariants.{Null, Int, Real, Text, Blob}
use Rattle.sqlite.specs.Order.{Row, column}
use Rattle.sqlite.specs.Term.{col}
use Rattle.sqlite.specs.Tree.{Trees}
use Rattle.sqlite.specs.Effect.{Database}
use Rattle.sqlite.specs.Query.{key_cmp}
use Rattle.sqlite.specs.declared.error.Error.{Error}
use Rattle.sqlite.specs.State.{State, HasCleanDisk, IsUnchanged}
use Rattle.sqlite.specs.Collation.TheVariants.{Binary}
use Rattle.sqlite_value.specs.declared.keys.Key.{Key}
use Rattle.sqlite_value.specs.Keys.{ascending}
use Rattle.sqlite_value.proofs.OrderLemmas.{value_cmp-Text, value_cmp-Int, then-Equal}
use Rattle.sqlite_trees.specs.Tree.{IsAscending}
use Rattle.sqlite_trees.proofs.ListLemmas.{ascending_weaker}
use Rattle.sqlite_rules.specs.Lists.{Has}
use Rattle.sqlite_rules.proofs.ListLemmas.{has_left, has_right}
use Rattle.world.specs.declared.entry.Place.{Place}
use Rattle.world.specs.Lines.{in_order}
use Rattle.world.specs.World.{common, text_cmp, place_cmp, version_limit}
use Rattle.world.proofs.Members.{no_member, first_member, later_member, member_cases, in_order_of, in_set_of}
use Rattle.world.proofs.Sound.{still}
use Rattle.tables.proofs.Maps.{text_put, text_splits}
use Rattle.world.proofs.Orders.{texts_total, texts_exact, places_total, places_exact}
use Rattle.tables.specs.Schema.{store_schema, access_table}
use Rattle.tables.specs.Walks.{Looks, Tests, Pass, Walks, MayFollow, run_with}
use Rattle.tables.specs.Fit
use Rattle.tables.specs.declared.fit.MetaRows.{MetaRows}
use Rattle.tables.specs.declared.fit.ShelfRows.{ShelfRows}
use Rattle.tables.specs.declared.fit.EntryRows.{EntryRows}
use Rattle.tables.proofs.Texts.{meta_rows_text, shelf_rows_text, entry_rows_text}
use Rattle.tables.proofs.Ascending.{has_permuted, Adjacent, adjacent_both, adjacent_among, ascends, ascends_permuted}
use Rattle.tables.proofs.Ascending.{across, apart_below, filter_permuted}
use Rattle.tables.proofs.ListingLemmas.{Lists, meta_rows, shelf_rows, entry_rows, rows_listed, in_its_order, all_shown}
use Rattle.tables.proofs.ListingLemmas.{first_shown, InOrder, first_column, place_columns}
use Rattle.tables.proofs.RunLemmas.{adjacent_apart, last_of, many_on, many_more, push_on, run_within, few_in_all}
use Rattle.tables.proofs.WorldOf.{held_text}

-- ---- a walk as a test

pub answered : (old new : State) (b : Bool) (P : Trees → Type 0) → Looks old new
    → (HasCleanDisk new → old.now.schema ≡ store_schema → IsUnchanged old new)
    → (HasCleanDisk new → old.now.schema ≡ store_schema → Decides b (P old.now.trees)) → Tests old new (Ok b) P
answered old new b P looks same answer = record { looks = looks; same = same; answer = answer }

pub no_answer : (old new : State) (e : Error) (P : Trees → Type 0) → Looks old new → Tests old new (Err e) P
no_answer old new e P looks = record { looks = looks; same = λ _ _. tt; answer = λ _ _. tt }

pub refused : {A : Type 0} → (A → ⊥) → Decides false A
refused no' = (λ t. absurd (true≢false (sym t)), λ a. absurd (no' a))

pub passed : {A : Type 0} → A → Decides true A
passed a = (λ _. a, λ _. refl)

-- each row passes, or one does not
pub walked : {X : Type 0} (Fits : X → Row → Type 0) (Keeps : X → Row → X → Type 0) (sql : List ℕ) (old new : State)
    (result : Result Bool Error) (start end : X) (P : Trees → Type 0) → Looks old new
    → (HasCleanDisk new → old.now.schema ≡ store_schema → OnOk result (IsUnchanged old new))
    → (HasCleanDisk new → old.now.schema ≡ store_schema → IfOk result (Walks Fits Keeps sql old.now start end))
    → (Walks Fits Keeps sql old.now start end true → P old.now.trees)
    → (Walks Fits Keeps sql old.now start end false → P old.now.trees → ⊥) → Tests old new result P
walked Fits Keeps sql old new (Ok true) start end P looks same answer yes' no' =
    answered old new true P looks same (λ clean has. passed (yes' (answer clean has)))
walked Fits Keeps sql old new (Ok false) start end P looks same answer yes' no' =
    answered old new false P looks same (λ clean has. refused (no' (answer clean has)))
walked Fits Keeps sql old new (Err e) start end P looks same answer yes' no' = no_answer old new e P looks

pub pass_each : {X : Type 0} (Fits : X → Row → Type 0) (Keeps : X → Row → X → Type 0) (start : X) (rows : List Row)
    (end : X)
    → Pass Fits Keeps start rows end → (row : Row) → Has rows row → (x : X) × Fits x row
pass_each {X} Fits Keeps start [] end p row there = absurd there
pass_each {X} Fits Keeps start (r ∷ rows) end p row (inl same) = (start, subst (Fits start) (sym same) p.0)
pass_each {X} Fits Keeps start (r ∷ rows) end p row (inr later) = pass_each Fits Keeps p.1 rows end p.3 row later

-- a row that is listed at this index
pub at_index : (rows tail : List Row) (row : Row) → Has ((rows ++ row ∷ []) ++ tail) row
at_index rows tail row = has_left (rows ++ row ∷ []) tail row (has_right rows (row ∷ []) row (inl refl))

-- each row before the row at this index stands in the relation to it
after_all : (P : Row → Row → Type 0) (rows tail : List Row) (row r : Row) → IsAscending P ((rows ++ row ∷ []) ++ tail)
    → Has rows r → P r row
after_all P rows tail row r up there =
    across P rows (row ∷ tail) (subst (IsAscending P) (append_assoc rows (row ∷ []) tail) up) r row there (inl refl)

-- ---- meta

abbrev pub MetaFits : MetaRows → Row → Type 0
MetaFits rows row = Fit.IsSchemaRow row

abbrev pub MetaKeeps : MetaRows → Row → MetaRows → Type 0
MetaKeeps rows row next = next.has_row ≡ true

met : (start : MetaRows) (rows : List Row) (end : MetaRows) → Pass MetaFits MetaKeeps start rows end
    → (end ≡ start) × (rows ≡ []) ⊎ ((r : Row) × Has rows r × (end.has_row ≡ true))
met start [] end p = inl (p, refl)
met start (r ∷ rows) end p =
    elim (met p.1 rows end p.3) [
      | inl none ↦ inr (r, inl refl, ap (λ (x : MetaRows). x.has_row) none.0 ∙ p.2)
      | inr it ↦ inr (it.0, inr it.1, it.2)
    ]

module _ (db : Database) (start end : MetaRows) where
  -- if each row of `meta` passed, the walk saw a row exactly if the rows are those of schema 3
  pub meta_true : start.has_row ≡ false → Walks MetaFits MetaKeeps meta_rows_text db start end true
      → Decides end.has_row (Fit.IsMetaFit (map Fit.meta_shown (db.trees 0)))
  meta_true new w =
      let same = rows_listed meta_rows db.trees w.0 (all_shown meta_rows db w.0 w.1) in
      elim (met start w.0 end w.2) [
        | inl none ↦ (
            let unseen : end.has_row ≡ false = ap (λ (x : MetaRows). x.has_row) none.0 ∙ new in (
              λ t. absurd (true≢false (sym t ∙ unseen)),
              λ fit.
                  absurd (subst (λ l. Has l fit.some.0) none.1
                  (has_permuted w.0 _ fit.some.0 (IsPermutation-sym _ _ same) fit.some.1)),
            ))
        | inr it ↦ (
          λ _. record {
            each = λ row there. (pass_each MetaFits MetaKeeps start w.0 end w.2 row
                (has_permuted w.0 _ row (IsPermutation-sym _ _ same) there)).1;
            some = (it.0, has_permuted _ w.0 it.0 same it.1);
          },
          λ _. it.2,
        )
      ]

  pub meta_false : Walks MetaFits MetaKeeps meta_rows_text db start end false
      → Fit.IsMetaFit (map Fit.meta_shown (db.trees 0)) → ⊥
  meta_false w fit =
      let first = first_shown meta_rows db (w.0 ++ w.1 ∷ []) w.3 in
      let same = rows_listed meta_rows db.trees _ first.1 in
      w.5 (fit.each w.1 (has_permuted _ _ w.1 same (at_index w.0 first.0 w.1)))

-- ---- rows with a key

pub not_itself : {K : Type 0} {R : K → K → Ordering} → IsTotalOrder R → (a b : K) → R a b ≡ Less → a ≡ b → ⊥
not_itself {K} {R} o a b less same = let e : Less ≡ Equal = sym less
    ∙ (ap (R a) (sym same) ∙ tied_itself o a) in absurd (cc)

abbrev pub Apart : {K : Type 0} → (Row → K) → Row → Row → Type 0
Apart key a b = key a ≡ key b → ⊥

pub apart_permuted : {K : Type 0} (key : Row → K) (xs ys : List Row) → IsPermutation xs ys → IsAscending (Apart key) xs
    → IsAscending (Apart key) ys
apart_permuted key = ascends_permuted (Apart key) (λ a b apart same. apart (sym same))

module _ {K : Type 0} {R : K → K → Ordering} (total : IsTotalOrder R) (key : Row → K) where
  abbrev pub Rises : Row → Row → Type 0
  Rises a b = R (key a) (key b) ≡ Less

  pub rises_apart : (rows : List Row) → IsAscending Rises rows → IsAscending (Apart key) rows
  rises_apart = ascending_weaker Rises (Apart key) (λ a b less same. not_itself total (key a) (key b) less same)

  -- rows that SQL puts in the order of their keys, no key twice, rise
  pub rise : IsAntisymmetric R → (IsRow : Row → Type 0) (keys : List Key) (columns : Row → Row)
      → ((a b : Row) → IsRow a → IsRow b → key_cmp 0 keys (columns a) (columns b) ≡ R (key a) (key b))
      → (rows : List Row) → ((r : Row) → Has rows r → IsRow r) → InOrder keys columns rows → Adjacent (Apart key) rows
      → IsAscending Rises rows
  rise exact IsRow keys columns ordered rows each sorted apart =
      let upto = adjacent_among _ (λ a b. is_lt (R (key b) (key a)) ≡ false) rows
      (λ a b here there h. ap is_lt (sym (ordered b a (each b there) (each a here))) ∙ h) sorted in
      ascends Rises
      (λ a b c. total.trans (key a) (key b) (key c)) rows
      (adjacent_both _ _ _ (λ a b upto apart. apart_below total exact (key a) (key b) upto apart) rows upto apart)

-- ---- access: rows in the order of a key, each with a key of its own

module _ {T K : Type 0} {R : K → K → Ordering} (total : IsTotalOrder R) (exact : IsAntisymmetric R)
    (IsRow : Row → Type 0) (key : Row → K) (last : T → Option K)
    (in_order : (a b : Row) → IsRow a → IsRow b
    → key_cmp 0 (ascending Binary ∷ []) (column a 0 ∷ []) (column b 0 ∷ []) ≡ R (key a) (key b)) where
  abbrev OnceFits : T → Row → Type 0
  OnceFits x row = IsRow row × (last x ≡ Some (key row) → ⊥)

  abbrev OnceKeeps : T → Row → T → Type 0
  OnceKeeps x row next = last next ≡ Some (key row)

  once_true : (start end : T) (rows all : List Row) → IsPermutation all rows
      → InOrder (ascending Binary ∷ []) first_column rows → Pass OnceFits OnceKeeps start rows end
      → Fit.AreOnce IsRow key all
  once_true start end rows all same sorted p =
      let back = IsPermutation-sym _ _ same in
      let apart = adjacent_apart OnceFits OnceKeeps last key (λ x row next keeps. keeps) (λ x row fits. fits.1) start
      rows end p in
      let each = λ (r : Row) (there : Has rows r). (pass_each OnceFits OnceKeeps start rows end p r there).1.0 in
      record {
        each = λ row there. each row (has_permuted rows all row back there);
        once = apart_permuted key rows all back
            (rises_apart total key rows
            (rise total key exact IsRow (ascending Binary ∷ []) first_column in_order rows each sorted apart));
      }

  -- if a row did not pass, the rows are not all of this form with a key of its own each
  once_false : (start noted : T) → last start ≡ None → (rows : List Row) (row : Row) (tail all : List Row)
      → IsPermutation all ((rows ++ row ∷ []) ++ tail)
      → Pass OnceFits OnceKeeps start rows noted → (OnceFits noted row → ⊥) → Fit.AreOnce IsRow key all → ⊥
  once_false start noted new rows row tail all same p unfit fit =
      let once = apart_permuted key all _ same fit.once in
      unfit (
        fit.each row (has_permuted all _ row same (at_index rows tail row)),
        λ is. elim (last_of OnceFits OnceKeeps last key (λ x row next keeps. keeps) start rows noted p (key row) is) [
          | inl old ↦ absurd (let e = sym new ∙ old in cc)
          | inr it ↦ after_all (Apart key) rows tail row it.0 once it.1 it.2
        ],
      )

  -- a walk over one column of `access` tests whether its rows are of this form with a key of its own each
  pub once_tests : {sql : List ℕ} {n : ℕ} (q : Lists sql access_table (col 1 n ∷ []) ((col 1 n, ascending Binary) ∷ []))
      (old new : State) (result : Result Bool Error) (start end : T)
      → last start ≡ None → Looks old new
      → (HasCleanDisk new → old.now.schema ≡ store_schema → OnOk result (IsUnchanged old new))
      → (HasCleanDisk new → old.now.schema ≡ store_schema
      → IfOk result (Walks OnceFits OnceKeeps sql old.now start end))
      → Tests old new result (λ db. Fit.AreOnce IsRow key (map (λ row. column row n ∷ []) (db 4)))
  once_tests {sql} q old new result start end fresh looks same answer =
      walked OnceFits OnceKeeps sql old new result start end _ looks same answer
      (λ w. let it = all_shown q old.now w.0 w.1 in
      once_true start end w.0 _ (rows_listed q old.now.trees w.0 it)
      (in_its_order q old.now.trees w.0 it first_column (λ env. refl)) w.2)
      (λ w. let first = first_shown q old.now (w.0 ++ w.1 ∷ []) w.3 in
      once_false start w.2 fresh w.0 w.1 first.0 _ (rows_listed q old.now.trees _ first.1) w.4 w.5)

-- texts in SQL's order are in ours
pub texts_in_order : (a b : Row) → Fit.IsKeyRow a → Fit.IsKeyRow b
    → key_cmp 0 (ascending Binary ∷ []) (column a 0 ∷ []) (column b 0 ∷ []) ≡ text_cmp (Fit.key_in a) (Fit.key_in b)
texts_in_order a b one two = rw (one.1, two.1) (then-Equal _ ∙ value_cmp-Text one.0 two.0)

pub ints_in_order : (a b : Row) → Fit.IsNumberRow a → Fit.IsNumberRow b
    → key_cmp 0 (ascending Binary ∷ []) (column a 0 ∷ []) (column b 0 ∷ [])
    ≡ int_cmp (Fit.number_in a) (Fit.number_in b)
ints_in_order a b one two = rw (one.1, two.1) (then-Equal _ ∙ value_cmp-Int one.0 two.0)

-- ---- shelf

shelf_names_in_order : (a b : Row) → Fit.IsShelfRow a → Fit.IsShelfRow b
    → key_cmp 0 (ascending Binary ∷ []) (column a 0 ∷ []) (column b 0 ∷ []) ≡ text_cmp (Fit.key_in a) (Fit.key_in b)
shelf_names_in_order a b one two = rw (one.2, two.2) (then-Equal _ ∙ value_cmp-Text one.0 two.0)

abbrev pub ShelfFits : ShelfRows → Row → Type 0
ShelfFits rows row = Fit.IsShelfRow row × (rows.last ≡ Some (Fit.key_in row) → ⊥)

abbrev pub ShelfKeeps : ShelfRows → Row → ShelfRows → Type 0
ShelfKeeps rows row next = (next.last ≡ Some (Fit.key_in row))
    × ((next.tops ≡ Fit.top_put (column row 1) (Fit.key_in row) rows.tops)
    × (next.parents ≡ Fit.parent_put (column row 1) rows.parents))

abbrev ShelfKeepsLast : ShelfRows → Row → ShelfRows → Type 0
ShelfKeepsLast rows row next = next.last ≡ Some (Fit.key_in row)

shelf_last : (start : ShelfRows) (rows : List Row) (end : ShelfRows) → Pass ShelfFits ShelfKeeps start rows end
    → Pass ShelfFits ShelfKeepsLast start rows end
shelf_last start [] end p = p
shelf_last start (r ∷ rows) end p = (p.0, p.1, p.2.0, shelf_last p.1 rows end p.3)

name_held : (row : Row) → Fit.IsShelfRow row → column row 0 ≡ Text (Fit.key_in row)
name_held row is = is.2 ∙ ap (λ v. Text (Fit.text_in v)) (sym is.2)

-- the shelves without a parent that are noted

top_from : (v : Value) (t u : List ℕ) (s : set.FinSet text_cmp) → set.contains (Fit.top_put v t s) u ≡ true
    → ((u ≡ t) × (v ≡ Null)) ⊎ (set.contains s u ≡ true)
top_from Null t u s h = elim (text_splits s t u h) [ inl same ↦ inl (same, refl) | inr old ↦ inr old ]
top_from (Int n) t u s h = inr h
top_from (Real x) t u s h = inr h
top_from (Text x) t u s h = inr h
top_from (Blob x) t u s h = inr h

top_stays : (v : Value) (t u : List ℕ) (s : set.FinSet text_cmp) → set.contains s u ≡ true
    → set.contains (Fit.top_put v t s) u ≡ true
top_stays Null t u s h = still s t u h
top_stays (Int n) t u s h = h
top_stays (Real x) t u s h = h
top_stays (Text x) t u s h = h
top_stays (Blob x) t u s h = h

-- a top that is there after a walk was there before or came from one of the rows
tops_from : (start : ShelfRows) (rows : List Row) (end : ShelfRows) → Pass ShelfFits ShelfKeeps start rows end
    → (u : List ℕ) → set.contains end.tops u ≡ true → (set.contains start.tops u ≡ true) ⊎ Fit.HasTop rows u
tops_from start [] end p u h = inl (ap (λ (x : ShelfRows). set.contains x.tops u) (sym p) ∙ h)
tops_from start (r ∷ rows) end p u h = elim (tops_from p.1 rows end p.3 u h) [
  | inl here ↦ elim (top_from (column r 1) (Fit.key_in r) u start.tops
      (sym (ap (λ s. set.contains s u) p.2.1.0) ∙ here)) [
        | inl it ↦ inr (r, inl refl, name_held r p.0.0 ∙ ap Text (sym it.0), it.1)
        | inr old ↦ inl old
      ]
  | inr later ↦ inr (later.0, inr later.1, later.2, later.3)
]

tops_stay : (start : ShelfRows) (rows : List Row) (end : ShelfRows) → Pass ShelfFits ShelfKeeps start rows end
    → (u : List ℕ) → set.contains start.tops u ≡ true → set.contains end.tops u ≡ true
tops_stay start [] end p u h = ap (λ (x : ShelfRows). set.contains x.tops u) p ∙ h
tops_stay start (r ∷ rows) end p u h =
    tops_stay p.1 rows end p.3 u
    (ap (λ s. set.contains s u) p.2.1.0 ∙ top_stays (column r 1) (Fit.key_in r) u start.tops h)

tops_noted : (start : ShelfRows) (rows : List Row) (end : ShelfRows) → Pass ShelfFits ShelfKeeps start rows end
    → (u : List ℕ) (r : Row) → Has rows r → column r 0 ≡ Text u → column r 1 ≡ Null → set.contains end.tops u ≡ true
tops_noted start [] end p u r there named none = absurd there
tops_noted start (x ∷ rows) end p u r (inl same) named none =
    let name : Fit.key_in x ≡ u = ap (λ y. Fit.key_in y) (sym same) ∙ ap Fit.text_in named in
    let null : column x 1 ≡ Null = ap (λ y. column y 1) (sym same) ∙ none in
    let put : set.contains (Fit.top_put (column x 1) (Fit.key_in x) start.tops) u ≡ true =
    rw (null, name) (text_put start.tops u) in
    tops_stay p.1 rows end p.3 u (ap (λ s. set.contains s u) p.2.1.0 ∙ put)
tops_noted start (x ∷ rows) end p u r (inr later) named none = tops_noted p.1 rows end p.3 u r later named none

-- the parents that are noted

abbrev HasParent : List Row → List ℕ → Type 0
HasParent rows u = (row : Row) × Has rows row × (column row 1 ≡ Text u)

put_from : (v : Value) (u : List ℕ) (s : set.FinSet text_cmp) → set.contains (Fit.parent_put v s) u ≡ true
    → (v ≡ Text u) ⊎ (set.contains s u ≡ true)
put_from Null u s h = inr h
put_from (Int n) u s h = inr h
put_from (Real x) u s h = inr h
put_from (Text t) u s h = elim (text_splits s t u h) [ inl same ↦ inl (ap Text (sym same)) | inr old ↦ inr old ]
put_from (Blob x) u s h = inr h

put_stays : (v : Value) (u : List ℕ) (s : set.FinSet text_cmp) → set.contains s u ≡ true
    → set.contains (Fit.parent_put v s) u ≡ true
put_stays Null u s h = h
put_stays (Int n) u s h = h
put_stays (Real x) u s h = h
put_stays (Text t) u s h = still s t u h
put_stays (Blob x) u s h = h

parents_from : (start : ShelfRows) (rows : List Row) (end : ShelfRows) → Pass ShelfFits ShelfKeeps start rows end
    → (u : List ℕ) → set.contains end.parents u ≡ true → (set.contains start.parents u ≡ true) ⊎ HasParent rows u
parents_from start [] end p u h = inl (ap (λ (x : ShelfRows). set.contains x.parents u) (sym p) ∙ h)
parents_from start (r ∷ rows) end p u h = elim (parents_from p.1 rows end p.3 u h) [
  | inl here ↦ elim (put_from (column r 1) u start.parents (sym (ap (λ s. set.contains s u) p.2.1.1) ∙ here)) [
    | inl it ↦
        inr (r, inl refl, it)
    | inr old ↦ inl old
  ]
  | inr later ↦ inr (later.0, inr later.1, later.2)
]

parents_stay : (start : ShelfRows) (rows : List Row) (end : ShelfRows) → Pass ShelfFits ShelfKeeps start rows end
    → (u : List ℕ) → set.contains start.parents u ≡ true → set.contains end.parents u ≡ true
parents_stay start [] end p u h = ap (λ (x : ShelfRows). set.contains x.parents u) p ∙ h
parents_stay start (r ∷ rows) end p u h =
    parents_stay p.1 rows end p.3 u (ap (λ s. set.contains s u) p.2.1.1 ∙ put_stays (column r 1) u start.parents h)

parents_noted : (start : ShelfRows) (rows : List Row) (end : ShelfRows) → Pass ShelfFits ShelfKeeps start rows end
    → (u : List ℕ) (r : Row) → Has rows r → column r 1 ≡ Text u → set.contains end.parents u ≡ true
parents_noted start [] end p u r there is = absurd there
parents_noted start (x ∷ rows) end p u r (inl same) is =
    let at : column x 1 ≡ Text u = ap (λ y. column y 1) (sym same) ∙ is in
    let put : set.contains (Fit.parent_put (column x 1) start.parents) u ≡ true = rw at (text_put start.parents u) in
    parents_stay p.1 rows end p.3 u (ap (λ s. set.contains s u) p.2.1.1 ∙ put)
parents_noted start (x ∷ rows) end p u r (inr later) is = parents_noted p.1 rows end p.3 u r later is

-- tests of all of a list

all_at : {A : Type 0} (f : A → Bool) (xs : List A) → list_all f xs ≡ true → (x : A) → Contains xs x → f x ≡ true
all_at f [] all x at = absurd (no_member x at)
all_at f (y ∷ xs) all x at =
    let both = and_parts (f y) (list_all f xs) all in
    elim (member_cases y x xs at) [
      | inl same ↦ subst (λ z. f z ≡ true) same both.0
      | inr later ↦ all_at f xs both.1 x later
    ]

all_of : {A : Type 0} (f : A → Bool) (xs : List A) → ((x : A) → Contains xs x → f x ≡ true) → list_all f xs ≡ true
all_of f [] each = refl
all_of f (y ∷ xs) each =
    and_from (f y) (list_all f xs) (each y (first_member y xs)) (all_of f xs (λ x at. each x (later_member y x xs at)))

module _ (db : Database) (start end : ShelfRows) (new : (u : List ℕ) → set.contains start.tops u ≡ true → ⊥)
    (none : (u : List ℕ) → set.contains start.parents u ≡ true → ⊥) where
  -- if each row of `shelf` passed, the names and parents that the walk noted are whole exactly if the rows of the
  -- table fit
  shelves_pass : (rows : List Row) → IsPermutation (map Fit.shelf_shown (db.trees 2)) rows
      → InOrder (ascending Binary ∷ []) first_column rows → Pass ShelfFits ShelfKeeps start rows end
      → Decides (Fit.are_whole end.tops end.parents) (Fit.AreShelvesFit (map Fit.shelf_shown (db.trees 2)))
  shelves_pass rows same sorted p =
      let back = λ (r : Row) (there : Has (map Fit.shelf_shown (db.trees 2)) r). has_permuted rows _ r
      (IsPermutation-sym _ _ same) there in
      let top : (u : List ℕ) → set.contains end.tops u ≡ true
      → Fit.HasTop (map Fit.shelf_shown (db.trees 2)) u = λ u h. elim (tops_from start rows end p u h) [
        | inl old ↦ absurd (new u old)
        | inr it ↦ (it.0, has_permuted _ rows it.0 same it.1, it.2, it.3)
      ] in
      let topped : (u : List ℕ) → Fit.HasTop (map Fit.shelf_shown (db.trees 2)) u
      → set.contains end.tops u ≡ true = λ u it. tops_noted start rows end p u it.0 (back it.0 it.1) it.2 it.3 in (
        λ whole.
            let both = and_parts (set.contains end.tops common) _ whole in
            record {
              shelves = once_true texts_total texts_exact Fit.IsShelfRow Fit.key_in (λ (x : ShelfRows). x.last)
                  shelf_names_in_order start end rows _ same sorted (shelf_last start rows end p);
              has_common = top common both.0;
              parents = λ row u there is.
                  let noted = parents_noted start rows end p u row (back row there) is in
                  top u (all_at (λ t. set.contains end.tops t) (in_order end.parents) both.1 u
                  (in_order_of texts_total texts_exact end.parents u noted));
            },
        λ fit. and_from _ _ (topped common fit.has_common)
            (all_of (λ t. set.contains end.tops t) (in_order end.parents) (λ u at.
            elim (parents_from start rows end p u (in_set_of texts_total texts_exact end.parents u at)) [
              | inl old ↦ absurd (none u old)
              | inr it ↦ topped u (fit.parents it.0 u (has_permuted _ rows it.0 same it.1) it.2)
            ])),
      )

  pub shelves_true : Walks ShelfFits ShelfKeeps shelf_rows_text db start end true
      → Decides (Fit.are_whole end.tops end.parents) (Fit.AreShelvesFit (map Fit.shelf_shown (db.trees 2)))
  shelves_true w =
      let it = all_shown shelf_rows db w.0 w.1 in
      shelves_pass w.0 (rows_listed shelf_rows db.trees w.0 it)
      (in_its_order shelf_rows db.trees w.0 it first_column (λ env. refl)) w.2

  pub shelves_false : start.last ≡ None → Walks ShelfFits ShelfKeeps shelf_rows_text db start end false
      → Fit.AreShelvesFit (map Fit.shelf_shown (db.trees 2)) → ⊥
  shelves_false fresh w fit =
      let first = first_shown shelf_rows db (w.0 ++ w.1 ∷ []) w.3 in
      once_false texts_total texts_exact Fit.IsShelfRow Fit.key_in
      (λ (x : ShelfRows). x.last) shelf_names_in_order start w.2 fresh w.0 w.1 first.0 _
      (rows_listed shelf_rows db.trees _ first.1) (shelf_last start w.0 w.2 w.4) w.5 fit.shelves

-- ---- version

abbrev pub EntryFits : EntryRows → Row → Type 0
EntryFits rows row = Fit.IsEntryRow row × MayFollow rows.last rows.many (Fit.place_in row)

abbrev pub EntryKeeps : EntryRows → Row → EntryRows → Type 0
EntryKeeps rows row next = (next.last ≡ Some (Fit.place_in row))
    × (next.many ≡ run_with rows.last rows.many (Fit.place_in row))

abbrev pub IsPlaced : Row → Type 0
IsPlaced row = (column row 0 ≡ Text (Fit.place_in row).shelf) × (column row 1 ≡ Text (Fit.place_in row).path)
    × (column row 2 ≡ Text (Fit.place_in row).version)

placed : (row : Row) → Fit.IsEntryRow row → IsPlaced row
placed row it = (
  held_text (column row 0) it.0.shelf it.2.shelf,
  held_text (column row 1) it.0.path it.2.path,
  held_text (column row 2) it.0.version it.2.version,
)

-- places in SQL's order are in ours
pub places_in_order : (a b : Row) → IsPlaced a → IsPlaced b
    → key_cmp 0 (ascending Binary ∷ ascending Binary ∷ ascending Binary ∷ []) (place_columns a) (place_columns b)
    ≡ place_cmp (Fit.place_in a) (Fit.place_in b)
places_in_order a b one two = rw (one.0, one.1, one.2, two.0, two.1, two.2)
    (λ i. ordering_then (value_cmp-Text (Fit.place_in a).shelf (Fit.place_in b).shelf i)
    (ordering_then (value_cmp-Text (Fit.place_in a).path (Fit.place_in b).path i)
    ((then-Equal _ ∙ value_cmp-Text (Fit.place_in a).version (Fit.place_in b).version) i)))

pub may_differ : (o : Option Place) (many : ℕ) (q : Place) → MayFollow o many q → o ≡ Some q → ⊥
may_differ None many q may is = let e = is in absurd (cc)
may_differ (Some p) many q may is = may.0 (let e = is in cc)

module _ (db : Database) (start end : EntryRows) where
  -- if each row of `version` passed, the rows of the table fit
  pub entries_true : start.last ≡ None → Walks EntryFits EntryKeeps entry_rows_text db start end true
      → Fit.AreEntriesFit (map Fit.entry_shown (db.trees 6))
  entries_true new w =
      let it = all_shown entry_rows db w.0 w.1 in
      let same = rows_listed entry_rows db.trees w.0 it in
      let back = IsPermutation-sym _ _ same in
      let apart = adjacent_apart EntryFits EntryKeeps (λ (x : EntryRows). x.last) Fit.place_in
      (λ x row next keeps. keeps.0)
      (λ x row fits. may_differ x.last x.many (Fit.place_in row) fits.1) start w.0 end w.2 in
      let each = λ (r : Row) (there : Has w.0 r). (pass_each EntryFits EntryKeeps start w.0 end w.2 r there).1.0 in
      let up = rise places_total Fit.place_in places_exact IsPlaced
      (ascending Binary ∷ ascending Binary ∷ ascending Binary ∷ []) place_columns places_in_order w.0
      (λ r there. placed r (each r there)) (in_its_order entry_rows db.trees w.0 it place_columns (λ env. refl))
      apart in
      record {
        each = λ row there. each row (has_permuted w.0 _ row back there);
        once = apart_permuted Fit.place_in w.0 _ back (rises_apart places_total Fit.place_in w.0 up);
        few = λ s p.
            let few = few_in_all EntryFits EntryKeeps (λ (x : EntryRows). x.last) (λ (x : EntryRows). x.many)
            (λ x row next keeps. keeps) (λ x row fits. fits.1) start w.0 end new up w.2 s p in
            subst (λ n. n ≤ version_limit) (sym (filter_permuted (λ row. Fit.is_on s p (Fit.place_in row)) w.0 _ back))
            few;
      }

  -- if a row of `version` did not pass, the rows of the table do not fit
  pub entries_false : start.last ≡ None → Walks EntryFits EntryKeeps entry_rows_text db start end false
      → Fit.AreEntriesFit (map Fit.entry_shown (db.trees 6)) → ⊥
  entries_false new w fit =
      let first = first_shown entry_rows db (w.0 ++ w.1 ∷ []) w.3 in
      let same = rows_listed entry_rows db.trees _ first.1 in
      let once = apart_permuted Fit.place_in _ _ same fit.once in
      let few = λ (s p : List ℕ).
      subst (λ n. n ≤ version_limit) (sym (filter_permuted (λ row. Fit.is_on s p (Fit.place_in row)) _ _ same))
      (fit.few s p) in
      w.5 (
        fit.each w.1 (has_permuted _ _ w.1 same (at_index w.0 first.0 w.1)),
        follows w first.0 once few w.2.last refl,
      )
    where
      follows : (w : Walks EntryFits EntryKeeps entry_rows_text db start end false) (tail : List Row)
          → IsAscending (Apart Fit.place_in) ((w.0 ++ w.1 ∷ []) ++ tail)
          → ((s p : List ℕ) → many_on s p ((w.0 ++ w.1 ∷ []) ++ tail) ≤ version_limit)
          → (o : Option Place) → w.2.last ≡ o → MayFollow o w.2.many (Fit.place_in w.1)
      follows w tail once few None is = tt
      follows w tail once few (Some p) is =
          let row = w.1 in (
            λ same. elim (last_of EntryFits EntryKeeps (λ (x : EntryRows). x.last) Fit.place_in
                (λ x row next keeps. keeps.0) start w.0 w.2 w.4 p is) [
                  | inl old ↦ absurd (let e = sym new ∙ old in cc)
                  | inr it ↦ after_all (Apart Fit.place_in) w.0 tail row it.0 once it.1 (it.2 ∙ same)
                ],
            λ on.
                let run = run_within EntryFits EntryKeeps (λ (x : EntryRows). x.last) (λ (x : EntryRows). x.many)
                (λ x row next keeps. keeps) [] start w.0 w.2 (λ q old. absurd (let e = sym new ∙ old in cc)) w.4 p is in
                let more = push_on p.shelf p.path w.0 row on in
                let all = many_more p.shelf p.path (w.0 ++ row ∷ []) tail in
                let most = few p.shelf p.path in
                omega (arith, run, more, all, most),
          )
