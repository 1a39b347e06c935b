-- What a query that lists all rows answers.
use Rattle.std.proofs.Common.{◌≡◌, ◌++◌, ℕ, pos, negsuc, false, List, [], ◌∷◌, map, flat_map, None, IsPermutation, inl}
use Rattle.std.proofs.Common.{inr, refl, sym, ap, subst, subst₂, ◌∙◌, codes, lit≤, true≢false}
use Rattle.std.specs.Prelude.{IsSorted}
use Rattle.std.specs.Ordering.{is_lt}
use Rattle.std.proofs.lemmas.List.Sorted.{IsPermutation-map}
use Rattle.sqlite.specs.declared.types.Value.TheVariants.{Null, Int}
use Rattle.sqlite.specs.Collation.TheVariants.{Binary}
use Rattle.sqlite_value.specs.declared.keys.Key.{Key}
use Rattle.sqlite_value.specs.Keys.{ascending}
use Rattle.sqlite.specs.Order.{Row, column}
use Rattle.sqlite.specs.Schema.{Schema}
use Rattle.sqlite.specs.Table.{Table}
use Rattle.sqlite.specs.Term.{Term, Env, lit, col, eval_all}
use Rattle.sqlite.specs.Tree.{Trees}
use Rattle.sqlite.specs.Query.{Query, Join, inner, end, IsAnswer, Output, output, output_cmp, key_cmp, matches}
use Rattle.sqlite.specs.Program.{overlay}
use Rattle.sqlite.specs.Effect.{Database, Reads, ReadsFirst, IsShown}
use Rattle.sqlite.specs.Listing.{understood, reads_listing}
use Rattle.sqlite.specs.Command.TheVariants.{Select}
use Rattle.sqlite.proofs.Callers.{IsPlain, command_of}
use Rattle.sqlite_tied.specs.Compute.{everything}
use Rattle.sqlite_trees.proofs.ListLemmas.{map-map}
use Rattle.sqlite_rules.specs.Lists.{Has}
use Rattle.sqlite_rules.proofs.ProbeLemmas.{has_mapped}
use Rattle.tables.specs.Schema.{store_schema, meta_table, shelf_table, access_table, version_table, piece_table}
use Rattle.tables.specs.Walks.{IsAlone}
use Rattle.tables.proofs.Texts.{meta_rows_text, shelf_rows_text, key_rows_text, number_rows_text, entry_rows_text}
use Rattle.tables.proofs.Texts.{piece_rows_text}
use Rattle.tables.proofs.Ascending.{has_permuted, Adjacent, adjacent_map, adjacent_among, sorted_adjacent}

-- a query for these terms of the rows of a join in this order, with no filter, group or limit
abbrev pub listing : Join → List Term → List (Term × Key) → Query
listing from project order = record {
  from = from;
  filter = [];
  group = None;
  project = project;
  distinct = false;
  collations = [];
  order = order;
  limit = lit (Int (negsuc 0));
  offset = lit (Int (pos 0));
}

-- the rows in order, each with what it is sorted by
pub record IsListing (q : Query) (db : Trees) (out : List Row) : Type 0 where
  pub ordered : List Output
  pub same : IsPermutation (map (output q) (matches db q.filter q.from ([] ∷ []))) ordered
  pub sorted : IsSorted (output_cmp q) ordered
  pub shown : out ≡ map (λ o. o.1) ordered

pub is_listing : (from : Join) (project : List Term) (order : List (Term × Key)) (db : Trees) (out : List Row)
    → IsAnswer (listing from project order) db [] out → IsListing (listing from project order) db out
is_listing from project order db out answer =
    let q = listing from project order in
    let listed : answer.kept ≡ map (output q) (matches db [] from ([] ∷ [])) = answer.distinct
    ∙ ap (map (output q)) answer.grouped in
    record {
      ordered = answer.ordered;
      same = subst (λ l. IsPermutation l answer.ordered) listed answer.same;
      sorted =
          answer.sorted;
      shown = answer.shown;
    }

-- ---- the statements

-- a text asks for these terms of the rows of one table of a store, in this order
pub record Lists (sql : List ℕ) (table : Table) (project : List Term) (order : List (Term × Key)) : Type 0 where
  pub names : List (List ℕ)
  pub is : command_of (understood store_schema sql)
      ≡ Select (record { lets = []; body = listing (inner table.tree end) project order }) names
  pub plain : IsPlain (understood store_schema sql)
  pub unlisted : reads_listing store_schema sql ≡ false
  pub alone : IsAlone sql (understood store_schema sql)
  -- its terms have the types that they need
  pub typed : (db : Trees)
      → IsShown (λ (r : Row). r) (record { schema = store_schema; trees = db })
      (record { lets = []; body = listing (inner table.tree end) project order }) [] None → ⊥
  pub there : Has store_schema.tables table
  pub held : (db : Trees) → overlay db [] table.tree ≡ db table.tree

pub meta_rows : Lists meta_rows_text meta_table (col 1 1 ∷ col 1 2 ∷ []) []
unfolding understood everything
meta_rows = record {
  names = _;
  is = refl;
  plain = (refl, refl);
  unlisted = refl;
  alone = (lit≤ tt, refl);
  typed =
      λ trees. true≢false;
  there = inl refl;
  held = λ db. refl;
}

pub shelf_rows : Lists shelf_rows_text shelf_table (col 1 1 ∷ col 1 2 ∷ []) ((col 1 1, ascending Binary) ∷ [])
unfolding understood everything
shelf_rows = record {
  names = _;
  is = refl;
  plain = (refl, refl);
  unlisted = refl;
  alone = (lit≤ tt, refl);
  typed =
      λ trees. true≢false;
  there = inr (inl refl);
  held = λ db. refl;
}

pub key_rows : Lists key_rows_text access_table (col 1 1 ∷ []) ((col 1 1, ascending Binary) ∷ [])
unfolding understood everything
key_rows = record {
  names = _;
  is = refl;
  plain = (refl, refl);
  unlisted = refl;
  alone = (lit≤ tt, refl);
  typed =
      λ trees. true≢false;
  there = inr (inr (inl refl));
  held = λ db. refl;
}

abbrev pub by_number : List (Term × Key)
by_number = (col 1 0, ascending Binary) ∷ []

pub number_rows : Lists number_rows_text access_table (col 1 0 ∷ []) by_number
unfolding understood everything
number_rows = record {
  names = _;
  is = refl;
  plain = (refl, refl);
  unlisted = refl;
  alone = (lit≤ tt, refl);
  typed =
      λ trees. true≢false;
  there = inr (inr (inl refl));
  held = λ db. refl;
}

abbrev pub by_place : List (Term × Key)
by_place = (col 1 2, ascending Binary) ∷ (col 1 3, ascending Binary) ∷ (col 1 4, ascending Binary) ∷ []

pub entry_rows : Lists entry_rows_text version_table
    (col 1 2 ∷ col 1 3 ∷ col 1 4 ∷ col 1 5 ∷ col 1 6 ∷ col 1 7 ∷ col 1 8 ∷ []) by_place
unfolding understood everything
entry_rows = record {
  names = _;
  is = refl;
  plain = (refl, refl);
  unlisted = refl;
  alone = (lit≤ tt, refl);
  typed =
      λ trees. true≢false;
  there = inr (inr (inr (inl refl)));
  held = λ db. refl;
}

abbrev pub piece_columns : List Term
piece_columns = col 1 1 ∷ col 1 2 ∷ col 1 3 ∷ []

abbrev pub piece_names : List (List ℕ)
piece_names = codes "version" ∷ codes "number" ∷ codes "bytes" ∷ []

abbrev pub by_piece : List (Term × Key)
by_piece = (col 1 1, ascending Binary) ∷ (col 1 2, ascending Binary) ∷ []

pub piece_rows : Lists piece_rows_text piece_table piece_columns by_piece
unfolding understood everything
piece_rows = record {
  names = _;
  is = refl;
  plain = (refl, refl);
  unlisted = refl;
  alone = (lit≤ tt, refl);
  typed =
      λ trees. true≢false;
  there = inr (inr (inr (inr (inl refl))));
  held = λ db. refl;
}

-- ---- the rows that are listed

-- the rows as they are shown, in some order
pub listed_rows : (from : Join) (project : List Term) (order : List (Term × Key)) (db : Trees) (out : List Row)
    → IsListing (listing from project order) db out
    → IsPermutation (map (eval_all project) (matches db [] from ([] ∷ []))) out
listed_rows from project order db out it =
    let q = listing from project order in
    subst₂ IsPermutation (map-map (λ (o : Output). o.1) (output q) (matches db [] from ([] ∷ []))) (sym it.shown)
    (IsPermutation-map (λ (o : Output). o.1) _ it.ordered it.same)

map_singles : {X Y Z : Type 0} (f : Y → Z) (g : X → Y) (xs : List X)
    → map f (flat_map (λ x. g x ∷ []) xs) ≡ map (λ x. f (g x)) xs
map_singles f g [] = refl
map_singles f g (x ∷ xs) = ap (λ l. f (g x) ∷ l) (map_singles f g xs)

pub of_table : (tree : ℕ) (project : List Term) (db : Trees)
    → map (eval_all project) (matches db [] (inner tree end) ([] ∷ []))
    ≡ map (λ row. eval_all project ([] ∷ row ∷ [])) (db tree)
of_table tree project db = map_singles (eval_all project) (λ row. [] ∷ row ∷ []) (db tree)

module _ (schema : Schema) (sql : List ℕ) (from : Join) (project : List Term) (order : List (Term × Key))
    (names : List (List ℕ))
    (is : command_of (understood schema sql) ≡ Select (record { lets = []; body = listing from project order }) names)
    (db : Database) where
  pub all_listed : (rows : List Row) → Reads (command_of (understood schema sql)) db [] rows
      → IsListing (listing from project order) (overlay db.trees []) rows
  all_listed rows h =
      let read = subst (λ k. Reads k db [] rows) is h in
      is_listing from project order (overlay db.trees []) rows (read.answer Null)

  pub first_listed : (rows : List Row) → ReadsFirst (command_of (understood schema sql)) db [] rows
      → (tail : List Row) × IsListing (listing from project order) (overlay db.trees []) (rows ++ tail)
  first_listed rows h =
      let got = (subst (λ k. ReadsFirst k db [] rows) is h).1 in
      (got.0, is_listing from project order (overlay db.trees []) (rows ++ got.0) (got.1 Null))

-- ---- their order

-- the keys of the rows come in order
abbrev pub InOrder : List Key → (Row → Row) → List Row → Type 0
InOrder keys key = Adjacent (λ a b. is_lt (key_cmp 0 keys (key b) (key a)) ≡ false)

-- what is listed comes with what it is sorted by
listed_with : (q : Query) (db : Trees) (out : List Row) (it : IsListing q db out) (o : Output) → Has it.ordered o
    → (env : Env) × (o ≡ output q env)
listed_with q db out it o there =
    let e = has_mapped (output q) (matches db q.filter q.from ([] ∷ [])) o
    (has_permuted (map (output q) (matches db q.filter q.from ([] ∷ []))) it.ordered o it.same there) in
    (e.0, e.2)

-- where what is shown has the key, the rows come in its order
pub listed_in_order : (q : Query) (db : Trees) (out : List Row) → IsListing q db out → (key : Row → Row)
    → ((env : Env) → (output q env).0 ≡ key (output q env).1)
    → InOrder (map (λ k. k.1) q.order) key out
listed_in_order q db out it key shown_key =
    let keyed = λ (o : Output) (there : Has it.ordered o).
    (let e = listed_with q db out it o there in ap (λ (x : Output). x.0) e.1
    ∙ (shown_key e.0 ∙ ap (λ (x : Output). key x.1) (sym e.1))) in
    subst (InOrder (map (λ k. k.1) q.order) key) (sym it.shown)
    (adjacent_map _ (λ (o : Output). o.1) it.ordered
    (adjacent_among _ _ it.ordered
    (λ a b here there h. subst₂ (λ x y. is_lt (key_cmp 0 (map (λ k. k.1) q.order) x y) ≡ false) (keyed b there)
    (keyed a here) h) (sorted_adjacent (output_cmp q) it.ordered it.sorted)))

-- ---- the rows of a table

module _ {sql : List ℕ} {table : Table} {project : List Term} {order : List (Term × Key)}
    (q : Lists sql table project order) where
  abbrev AreListed : Trees → List Row → Type 0
  AreListed db rows = IsListing (listing (inner table.tree end) project order) (overlay db []) rows

  -- the rows of the table as the query shows them
  abbrev shown_of : Trees → List Row
  shown_of db = map (λ row. eval_all project ([] ∷ row ∷ [])) (db table.tree)

  pub rows_listed : (db : Trees) (rows : List Row) → AreListed db rows → IsPermutation (shown_of db) rows
  rows_listed db rows it =
      subst (λ l. IsPermutation l rows)
      (of_table table.tree project (overlay db []) ∙ ap (map (λ row. eval_all project ([] ∷ row ∷ []))) (q.held db))
      (listed_rows (inner table.tree end) project order (overlay db []) rows it)

  pub in_its_order : (db : Trees) (rows : List Row) → AreListed db rows → (key : Row → Row)
      → ((env : Env) → (output (listing (inner table.tree end) project order) env).0
      ≡ key (output (listing (inner table.tree end) project order) env).1) → InOrder (map (λ k. k.1) order) key rows
  in_its_order db = listed_in_order (listing (inner table.tree end) project order) (overlay db [])

  -- a walk to the end shows the rows of the table
  pub all_shown : (db : Database) (rows : List Row) → Reads (command_of (understood store_schema sql)) db [] rows
      → AreListed db.trees rows
  all_shown = all_listed store_schema sql (inner table.tree end) project order q.names q.is

  -- a walk that stops shows the first of them
  pub first_shown : (db : Database) (rows : List Row) → ReadsFirst (command_of (understood store_schema sql)) db [] rows
      → (tail : List Row) × AreListed db.trees (rows ++ tail)
  first_shown = first_listed store_schema sql (inner table.tree end) project order q.names q.is

abbrev pub first_column : Row → Row
first_column row = column row 0 ∷ []

abbrev pub number_columns : Row → Row
number_columns row = column row 0 ∷ column row 1 ∷ []

abbrev pub place_columns : Row → Row
place_columns row = column row 0 ∷ column row 1 ∷ column row 2 ∷ []
