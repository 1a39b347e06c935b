-- What the query of a count answers.
use Rattle.std.proofs.Common.{◌≡◌, ◌≤◌, ◌++◌, ℕ, suc, pos, negsuc, Bool, true, false, cond, List, [], ◌∷◌, length, min}
use Rattle.std.proofs.Common.{map as mapped}
use Rattle.std.proofs.Common.{flat_map, filter, Option, Some, None, is_some, inl, inr, refl, sym, ap, subst, ◌∙◌, arith}
use Rattle.std.proofs.Common.{true≢false}
use Rattle.std.specs.FinMap as map
use Rattle.std.specs.List.{AllZip, list_all}
use Rattle.std.proofs.lemmas.Bool.{and_parts}
use Rattle.std.proofs.lemmas.List.Sorted.{length_permutation}
use Rattle.sqlite.specs.declared.types.Value.TheVariants.{Null, Int, Text}
use Rattle.sqlite.specs.Collation.TheVariants.{Binary}
use Rattle.sqlite_sql.specs.declared.aggregate.AggregateOp.TheVariants.{CountRows}
use Rattle.sqlite_sql.specs.declared.ops.BinaryOp.TheVariants.{Compare}
use Rattle.sqlite_sql.specs.declared.ops.CompareOp.TheVariants.{Eq}
use Rattle.sqlite_sql.specs.Group.{Aggregate, Grouping, IsSummary, value_over}
use Rattle.sqlite.specs.Order.{Row, column}
use Rattle.sqlite.specs.Term.{Term, Env, lit, col, op2, eval, holds}
use Rattle.sqlite.specs.Tree.{Trees}
use Rattle.sqlite.specs.Query.{Query, inner, end, IsAnswer, Output, output, matches}
use Rattle.sqlite.specs.Program.{overlay}
use Rattle.sqlite.specs.Effect.{Database}
use Rattle.sqlite_rules.specs.Lists.{Has}
use Rattle.sqlite_rules.proofs.ListLemmas.{has_filtered}
use Rattle.sqlite_rules.proofs.ProbeLemmas.{has_mapped}
use Rattle.world.specs.declared.entry.Place.{Place}
use Rattle.world.specs.declared.entry.Entry.{Entry}
use Rattle.world.specs.World.{World, IsWorld, count, version_limit}
use Rattle.world.proofs.Orders.{places_total, places_exact, text_self, text_same}
use Rattle.statements.specs.Counted.{versions_in}
use Rattle.statements.specs.Lookup.{passes}
use Rattle.statements.proofs.LookupLemmas.{Picks}
use Rattle.tables.specs.Means.{Means, IsAt}
use Rattle.tables.specs.Fit.{is_on}
use Rattle.tables.proofs.ValueLemmas.{equals_text, equals_itself}
use Rattle.tables.proofs.Ascending.{has_permuted}
use Rattle.tables.proofs.CountedRows.{all_counted, rows_counted, same_place}

abbrev pub most : ℕ
most = 9223372036854775807

abbrev pub each_row : Aggregate
each_row = record { op = CountRows; distinct = false; collation = Binary; argument = lit Null }

abbrev pub all_rows : Grouping
all_rows = record { keys = []; collations = []; aggregates = each_row ∷ []; having = [] }

-- a query for how many rows of a table pass the filter
abbrev pub counting : ℕ → List Term → Query
counting tree filter = record {
  from = inner tree end;
  filter = filter;
  group = Some all_rows;
  project = col 1 0 ∷ [];
  distinct = false;
  collations = [];
  order = [];
  limit = lit (Int (negsuc 0));
  offset = lit (Int (pos 0));
}

matched_length : {X Y : Type 0} (p : X → Bool) (f : X → Y) (xs : List X)
    → length (flat_map (λ x. cond (p x) (f x ∷ []) []) xs) ≡ length (filter p xs)
matched_length p f [] = refl
matched_length {X} {Y} p f (x ∷ xs) = go (p x) (matched_length p f xs)
  where
    go : (b : Bool) → length (flat_map (λ x. cond (p x) (f x ∷ []) []) xs) ≡ length (filter p xs)
        → length (cond b (f x ∷ []) [] ++ flat_map (λ x. cond (p x) (f x ∷ []) []) xs)
        ≡ length (cond b (x ∷ filter p xs) (filter p xs))
    go true h = ap suc h
    go false h = h

mapped_length : {X Y : Type 0} (f : X → Y) (xs : List X) → length (mapped f xs) ≡ length xs
mapped_length f [] = refl
mapped_length f (x ∷ xs) = ap suc (mapped_length f xs)

zipped_alone : {X Y : Type 0} (P : X → Y → Type 0) (x : X) (ys : List Y) (y : Y) → AllZip P (x ∷ []) ys → Has ys y
    → P x y
zipped_alone P x [] y h there = absurd there
zipped_alone P x (z ∷ []) y h (inl same) = subst (P x) (sym same) h.0
zipped_alone P x (z ∷ []) y h (inr none) = absurd none
zipped_alone P x (z ∷ w ∷ ys) y h there = absurd h.1

-- the one row of a group has the number of its members
summed : (group : List Env) (row : Row) → IsSummary all_rows group row
    → column row 0 ≡ Int (pos (min (length group) most))
summed group row it = go it.0 it.1 it.2
  where
    go : (values : Row) → AllZip (λ a v. value_over group a ≡ Some v) (each_row ∷ []) values → row ≡ values
        → column row 0 ≡ Int (pos (min (length group) most))
    go [] h same = absurd h
    go (v ∷ []) h same =
        let is : Int (pos (min (length (mapped (eval (lit Null)) group)) most)) ≡ v = let e = h.0 in cc in
        ap (λ (r : Row). column r 0) same
        ∙ (sym is ∙ ap (λ n. Int (pos (min n most))) (mapped_length (eval (lit Null)) group))
    go (v ∷ u ∷ values) h same = absurd h.1

module _ (tree : ℕ) (filters : List Term) (db : Trees) (params row : Row) (tail : List Row) where
  -- the first row of an answer to a counting query has the number of the rows that pass, capped at `most`
  pub row_counted : IsAnswer (counting tree filters) db params (row ∷ tail)
      → column row 0 ≡ Int (pos (min (length (filter (passes filters params) (db tree))) most))
  row_counted answer =
      let q = counting tree filters in
      let all = matches db filters (inner tree end) (params ∷ []) in
      let sum = answer.grouped in
      let o = has_mapped (λ (k : Output). k.1) answer.ordered row (subst (λ l. Has l row) answer.shown (inl refl)) in
      let e = has_mapped (output q) answer.staged o.0
      (subst (λ l. Has l o.0) answer.distinct (has_permuted answer.kept answer.ordered o.0 answer.same o.1)) in
      let f = has_filtered (λ (env : Env). list_all (holds env) all_rows.having)
      (mapped (λ r. params ∷ r ∷ []) sum.rows) e.0 (subst (λ l. Has l e.0) sum.having e.1) in
      let r = has_mapped (λ (r : Row). params ∷ r ∷ []) sum.rows e.0 f.0 in
      let order = sum.grouping.0 in
      let summary = zipped_alone (IsSummary all_rows) order sum.rows r.0
      (subst (λ gs. AllZip (IsSummary all_rows) gs sum.rows) sum.grouping.2 sum.summaries) r.1 in
      let shown : column row 0 ≡ column r.0 0 =
      ap (λ (x : Row). column x 0) (o.2 ∙ (ap (λ (k : Output). k.1) e.2 ∙ ap (λ env. (output q env).1) r.2)) in
      let many : length order ≡ length (filter (passes filters params) (db tree)) =
      length_permutation all order sum.grouping.1
      ∙ matched_length (passes filters params) (λ x. params ∷ x ∷ []) (db tree) in
      shown ∙ (summed order r.0 summary ∙ ap (λ n. Int (pos (min n most))) many)

-- ---- the versions of a path on a shelf

abbrev pub by_path : List Term
by_path = op2 (Compare Eq Binary) (col 1 2) (col 0 0) ∷ op2 (Compare Eq Binary) (col 1 3) (col 0 1) ∷ []

abbrev pub path_params : List ℕ → List ℕ → Row
path_params s p = Text s ∷ Text p ∷ []

abbrev pub count_query : Query
count_query = counting 6 by_path

small : (n : ℕ) → n ≤ version_limit → min n most ≡ n
small n few = omega (arith, few)

module _ (s p : List ℕ) (w : World) (db : Trees) (means : Means db w) where
  passes_at : (row : Row) → passes by_path (path_params s p) row ≡ true
      → (column row 2 ≡ Text s) × (column row 3 ≡ Text p)
  passes_at row h =
      let one = and_parts _ _ h in
      let two = and_parts _ _ one.1 in
      (equals_text (column row 2) s one.0, equals_text (column row 3) p two.0)

  passes_only : (q : Place) (row : Row) → IsAt row q → passes by_path (path_params s p) row ≡ true → is_on s p q ≡ true
  passes_only q row at h =
      let it = passes_at row h in
      let shelf : q.shelf ≡ s = let e = sym at.0 ∙ it.0 in cc in
      let path : q.path ≡ p = let e = sym at.1 ∙ it.1 in cc in
      rw (shelf, path, text_self s, text_self p) refl

  passes_own : (q : Place) (row : Row) → IsAt row q → is_on s p q ≡ true → passes by_path (path_params s p) row ≡ true
  passes_own q row at h =
      let sides = and_parts _ _ h in
      rw (at.0, at.1, text_same q.shelf s sides.0, text_same q.path p sides.1, equals_itself s, equals_itself p) refl

  pub count_read : (base : Database) → base.trees ≡ db → IsWorld w → (row : Row) (n : ℕ)
      → Picks count_query (path_params s p) base (Some row) → column row 0 ≡ Int (pos n) → n ≡ count w s p
  count_read base has_db is row n picked shown =
      let got = picked.1 in
      let answer = got.1 Null in
      let counted = row_counted 6 by_path (overlay base.trees []) (path_params s p) row got.0 answer in
      let value : pos n ≡ pos (min (length (filter (passes by_path (path_params s p)) (base.trees 6))) most) = let e =
      sym shown ∙ counted in cc in
      let number : n ≡ min (length (filter (passes by_path (path_params s p)) (base.trees 6))) most = cc in
      let many : length (filter (passes by_path (path_params s p)) (base.trees 6)) ≡ count w s p = subst
      (λ (t : Trees). length (filter (passes by_path (path_params s p)) (t 6)) ≡ count w s p) (sym has_db)
      (all_counted s p w db means (passes by_path (path_params s p)) passes_own passes_only) in
      number ∙ (ap (λ k. min k most) many ∙ small (count w s p) (is.few s p))

-- ---- all versions

abbrev pub count_all : Query
count_all = counting 6 []

all_pass : (params : Row) (rows : List Row) → filter (passes [] params) rows ≡ rows
all_pass params [] = refl
all_pass params (row ∷ rows) = ap (λ (l : List Row). row ∷ l) (all_pass params rows)

module _ (w : World) (db : Trees) (means : Means db w) where
  each_at : (row : Row) → Has (db 6) row → (q : Place) × IsAt row q × (map.contains_key w.entries q ≡ true)
  each_at row there = let it = means.entries.each row there in
      (it.0.0, it.1.place, ap (λ (g : Option Entry). is_some g) it.2)

  at_each : (q : Place) → map.contains_key w.entries q ≡ true → (row : Row) × Has (db 6) row × IsAt row q
  at_each q h = go (map.get w.entries q) refl h
    where
      go : (g : Option Entry) → map.get w.entries q ≡ g → is_some g ≡ true → (row : Row) × Has (db 6) row × IsAt row q
      go None is some = absurd (true≢false (sym some))
      go (Some e) is some = let it = means.entries.found (q, e) is in (it.0, it.1, it.2.place)

  rows_of_all : length (db 6) ≡ map.len w.entries
  rows_of_all = rows_counted places_total places_exact IsAt same_place (db 6) w.entries each_at at_each means.places

  pub all_read : (base : Database) → base.trees ≡ db → (row : Row) (n : ℕ) → Picks count_all [] base (Some row)
      → column row 0 ≡ Int (pos n) → n ≡ versions_in w
  all_read base has_db row n picked shown =
      let got = picked.1 in
      let answer = got.1 Null in
      let counted = row_counted 6 [] (overlay base.trees []) [] row got.0 answer in
      let value : pos n ≡ pos (min (length (filter (passes [] []) (base.trees 6))) most) = let e = sym shown
      ∙ counted in cc in
      let number : n ≡ min (length (filter (passes [] []) (base.trees 6))) most = cc in
      let many : length (filter (passes [] []) (base.trees 6)) ≡ map.len w.entries =
      ap length (all_pass [] (base.trees 6))
      ∙ subst (λ (t : Trees). length (t 6) ≡ map.len w.entries) (sym has_db) rows_of_all in
      number ∙ ap (λ k. min k most) many
