-- Why a walk over the rows of the tables fails.
use Rattle.std.proofs.Common.{◌≡◌, ◌≤◌, ◌⊎◌, ◌+◌, ◌^◌, ◌++◌, ℕ, Bool, true, false, List, [], ◌∷◌, length, map, Option}
use Rattle.std.proofs.Common.{None, Ok, Err}
use Rattle.std.proofs.Common.{Result, inl, inr, refl, sym, ap, subst, ◌∙◌, arith, IfErr, true≢false, length-append}
use Rattle.std.specs.Prelude.{IsSome, IsErrAnd}
use Rattle.std.proofs.lemmas.List.{length-map}
use Rattle.std.proofs.lemmas.List.Sorted.{length_permutation}
use Rattle.sqlite_trees.specs.View.{doubt}
use Rattle.sqlite.specs.Tree.{Trees}
use Rattle.sqlite.specs.Order.{Row}
use Rattle.sqlite.specs.Schema.{Schema}
use Rattle.sqlite.specs.Table.{Table}
use Rattle.sqlite_trees.specs.declared.store.Store.{Ghosts}
use Rattle.sqlite.specs.Held.{Held, state}
use Rattle.sqlite.specs.Command.TheVariants.{Select}
use Rattle.sqlite.specs.Term.{Term, eval, eval_all}
use Rattle.sqlite.specs.Query.{Join, inner, end, matches}
use Rattle.sqlite.specs.Program.{overlay}
use Rattle.sqlite.specs.Effect.{Database, ReadsFirst, RefusesToRead, RefusesQuery}
use Rattle.sqlite_sql.specs.Query.{has_no_fold}
use Rattle.sqlite_sql.proofs.QueryLemmas.{no_fold_overflows}
use Rattle.sqlite_value.specs.declared.keys.Key.{Key}
use Rattle.sqlite_rules.specs.Lists.{Has}
use Rattle.sqlite_rules.proofs.ProbeLemmas.{has_mapped}
use Rattle.sqlite.specs.declared.error.Error.{Error}
use Rattle.sqlite.specs.declared.error.Error.TheVariants.{SqliteFailure}
use Rattle.sqlite.specs.declared.error.ErrorCode.TheVariants.{TypeMismatch}
use Rattle.sqlite.specs.Listing.{understood, reads_listing, IsSourceOf}
use Rattle.sqlite.specs.State.{State, HasCleanDisk, IsUnchanged, Survives, Begins, FailsToQuery}
use Rattle.sqlite.proofs.Callers.{IsPlain, command_of}
use Rattle.tables.specs.Schema.{store_schema}
use Rattle.tables.specs.Walks.{Tests, IsAlone, IsAllowed, IsWalkable, ShowsTooMany, ShowsTooManyOver}
use Rattle.tables.specs.Causes.{IsExcused, IsVast, IsVastOver, HasReason}
use Rattle.tables.proofs.FailureLemmas.{was_clean}
use Rattle.tables.proofs.Ascending.{has_permuted}
use Rattle.tables.proofs.FitTests.{at_index}
use Rattle.tables.proofs.WalkLemmas.{unchanged_schema, some_walked}
use Rattle.tables.proofs.CauseLemmas.{unrun, IsOnItsWay, excused_since, on_its_way}
use Rattle.tables.proofs.ListingLemmas.{listing, listed_rows, first_listed, IsListing, of_table, Lists}

-- ---- one query

module _ (schema : Schema) (sql : List ℕ) (it : IsAllowed schema sql) (plain : IsPlain (understood schema sql))
    (unlisted : reads_listing schema sql ≡ false) where
  -- the query fails only with an error that is excused
  pub query_excused : (old new : State) (e : Error) → old.now.schema ≡ schema → FailsToQuery sql [] old new e
      → IsExcused old new e
  unfolding FailsToQuery
  query_excused old new e has (inl unread) =
      unrun sql old new schema has (command_of (understood schema sql)) refl plain it.alone e unread
  query_excused old new e has (inr h) =
      let known : Ok h.0 ≡ understood schema sql = sym h.1.is ∙ ap (λ s. understood s sql) has in
      let bare = subst IsPlain (sym known) plain in
      let shown = rw (bare.0, bare.1) at h.2 in
      let same : shown.0 ≡ old.now =
      subst (λ b. IsSourceOf b old.now shown.0) (ap (λ s. reads_listing s sql) has ∙ unlisted) shown.1 in
      let refused = subst (λ k. RefusesToRead old.step_limit k shown.0 [] e) (ap command_of known) shown.2 in
      inr (inr (inl (it.allowed old.step_limit shown.0 e (ap (λ (d : Database). d.schema) same ∙ has) refused)))

  -- after some rows
  module _ (old mid : State) (has : old.now.schema ≡ schema) (same : IsUnchanged old mid) where
    pub next_excused : (new : State) (e : Error) → Survives old mid (λ _. ⊥) → FailsToQuery sql [] mid new e
        → IsExcused old new e
    next_excused new e survives h =
        excused_since old mid new e (on_its_way old mid (λ _. ⊥) survives same.0.is_open)
        (query_excused mid new e (unchanged_schema old mid same has) h)

    pub too_many : (rows : List Row) → Begins sql [] mid rows → 2 ^ 128 ≤ length rows + 1
        → ShowsTooManyOver schema sql old.now
    too_many rows begins many = (rows, some_walked schema sql plain unlisted old mid mid has same rows begins, many)

-- an error that is handed on
pub error_says : {X E : Type 0} (P : E → Type 0) (r : Result X E) (e : E) → IsErrAnd r (λ x. x ≡ e) → P e → IfErr r P
error_says P (Ok x) e same h = tt
error_says P (Err x) e same h = subst P (sym same) h

pub excused_same : {S : Type 0} (g : Ghosts S) (old : State) (x y : Held S) (e : Error) (Q : Type 0) → x ≡ y
    → IsExcused old (state g x) e → IsExcused old (state g y) e ⊎ Q
excused_same g old x y e Q same h = inl (subst (λ z. IsExcused old (state g z) e) same h)

-- ---- a query that lists rows

-- each row has a value for each column
listed_width : (from : Join) (project : List Term) (order : List (Term × Key)) (db : Trees) (out : List Row)
    → IsListing (listing from project order) db out → (row : Row) → Has out row → length row ≡ length project
listed_width from project order db out it row there =
    let e = has_mapped (eval_all project) (matches db [] from ([] ∷ [])) row
    (has_permuted (map (eval_all project) (matches db [] from ([] ∷ []))) out row
    (listed_rows from project order db out it) there) in
    ap length e.2 ∙ length-map project (λ t. eval t e.0)

module _ (schema : Schema) (sql : List ℕ) (from : Join) (project : List Term) (order : List (Term × Key))
    (names : List (List ℕ))
    (is : command_of (understood schema sql) ≡ Select (record { lets = []; body = listing from project order }) names)
  where
    -- only a limit on its steps can refuse a query for terms of a join with no fold and no type error
    pub is_allowed : has_no_fold from ≡ true
        → ((db : Database) → db.schema ≡ schema
        → RefusesQuery None db (record { lets = []; body = listing from project order }) [] (SqliteFailure TypeMismatch)
        → ⊥) → IsAlone sql (understood schema sql) → IsAllowed schema sql
    is_allowed foldless typed alone = record { alone = alone; allowed = allowed }
      where
        allowed : (limit : Option ℕ) (db : Database) (e : Error) → db.schema ≡ schema
            → RefusesToRead limit (command_of (understood schema sql)) db [] e → IsSome limit
        allowed limit db e has h = elim (subst (λ k. RefusesToRead limit k db [] e) is h) [
          | inl (named, wrong) ↦ absurd (typed db has (inl (refl, wrong)))
          | inr (inl (named, inl none)) ↦ absurd none
          | inr (inl (named, inr over)) ↦ absurd (no_fold_overflows (overlay db.trees []) from ([] ∷ []) foldless over)
          | inr (inr (named, limited)) ↦ limited
        ]

    -- each row that it shows has a value for each column
    shown_wide : (db : Database) (rows : List Row) (row : Row)
        → ReadsFirst (command_of (understood schema sql)) db [] (rows ++ row ∷ []) → length row ≡ length project
    shown_wide db rows row h =
        let first = first_listed schema sql from project order names is db (rows ++ row ∷ []) h in
        listed_width from project order (overlay db.trees []) ((rows ++ row ∷ []) ++ first.0) first.1 row
        (at_index rows first.0 row)

    -- if the query shows as many rows as a walk counts, the join has that many
    pub many_listed : (db : Database) → ShowsTooManyOver schema sql db
        → 2 ^ 128 ≤ length (map (eval_all project) (matches (overlay db.trees []) [] from ([] ∷ []))) + 1
    many_listed db h =
        let first = first_listed schema sql from project order names is db h.0 h.1 in
        let same = length_permutation (map (eval_all project) (matches (overlay db.trees []) [] from ([] ∷ [])))
        (h.0 ++ first.0) (listed_rows from project order (overlay db.trees []) (h.0 ++ first.0) first.1) in
        let all = length-append h.0 first.0 in
        let long = h.2 in
        omega (arith, same, all, long)

-- a query of one table
module _ (schema : Schema) (sql : List ℕ) (tree : ℕ) (project : List Term) (order : List (Term × Key))
    (names : List (List ℕ))
    (is : command_of (understood schema sql)
    ≡ Select (record { lets = []; body = listing (inner tree end) project order }) names) where
  -- if it shows as many rows as a walk counts, the table is vast
  pub table_vast : (table : Table) → Has schema.tables table → table.tree ≡ tree
      → ((db : Database) → overlay db.trees [] tree ≡ db.trees tree)
      → (db : Database) → db.schema ≡ schema → ShowsTooManyOver schema sql db → IsVastOver schema db
  table_vast table listed own plain db has h =
      record {
        schema = has;
        table = table;
        listed = listed;
        rows =
            subst (λ t. 2 ^ 64 ≤ length (db.trees t)) (sym own) many;
      }
    where
      many : 2 ^ 64 ≤ length (db.trees tree)
      many =
          let long = many_listed schema sql (inner tree end) project order names is db h in
          let all = ap length (of_table tree project (overlay db.trees [])) in
          let each = length-map (overlay db.trees [] tree) (λ row. eval_all project ([] ∷ row ∷ [])) in
          let there = ap length (plain db) in
          omega (arith, long, all, each, there)

-- a query that lists rows of one table of a store
module _ {sql : List ℕ} {table : Table} {project : List Term} {order : List (Term × Key)}
    (q : Lists sql table project order) where
  pub walkable : IsWalkable sql (length project)
  walkable = record {
    query = is_allowed store_schema sql (inner table.tree end) project order q.names q.is refl typed q.alone;
    wide = shown_wide store_schema sql (inner table.tree end) project order q.names q.is;
  }
    where
      typed : (db : Database) → db.schema ≡ store_schema
          → RefusesQuery None db (record { lets = []; body = listing (inner table.tree end) project order }) []
          (SqliteFailure TypeMismatch) → ⊥
      typed db has (inl (same, wrong)) = q.typed db.trees (rw has at wrong)
      typed db has (inr (inl (other, over))) = absurd (cc)
      typed db has (inr (inr (other, some))) = true≢false (sym some)

  pub walk_reason : (old new : State) (r : Result Bool Error) → old.now.schema ≡ store_schema
      → IfErr r (λ e. IsExcused old new e ⊎ ShowsTooMany sql old.now) → IfErr r (HasReason old new)
  walk_reason old new (Ok b) has h = tt
  walk_reason old new (Err e) has (inl excused) = inl excused
  walk_reason old new (Err e) has (inr many) =
      inr (table_vast store_schema sql table.tree project order q.names q.is table q.there refl (λ db. q.held db.trees)
      old.now has many)

-- ---- one walk after the other

-- after a test that was passed
module _ (a b c : State) (P : Trees → Type 0) (first : Tests a b (Ok true) P) (up : doubt b.is_clean ≤ doubt c.is_clean)
    (clean : HasCleanDisk c) (has : a.now.schema ≡ store_schema) where
  pub then_reason : (r : Result Bool Error) → (HasCleanDisk c → b.now.schema ≡ store_schema → IfErr r (HasReason b c))
      → IfErr r (HasReason a c)
  then_reason (Ok x) next = tt
  then_reason (Err e) next =
      let was = was_clean b c up clean in
      let same : IsUnchanged a b = first.same was has in
      let way : IsOnItsWay a b =
      record { is_open = same.0.is_open; limit = first.looks.limit was has; counts = first.looks.counts was has } in
      elim (next clean (unchanged_schema a b same has)) [
        | inl excused ↦ inl (excused_since a b c e way excused)
        | inr vast ↦ inr (subst IsVast same.0.now_is vast)
      ]
