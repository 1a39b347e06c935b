-- What an INSERT of one row does, in a table that neither counts its rows nor stamps them.
use Rattle.std.proofs.Common.{◌≡◌, ◌⊎◌, ◌/◌, ℕ, ℤ, Bool, true, false, cond, List, [], ◌∷◌, length, drop, slice_get}
use Rattle.std.proofs.Common.{Option}
use Rattle.std.proofs.Common.{Some, None, Ok, Err, Result, inl, inr, refl, sym, ap, subst, ◌∙◌, MatchBool, is_lt}
use Rattle.std.proofs.Common.{int_cmp}
use Rattle.sqlite.specs.Order.{Row}
use Rattle.sqlite.specs.Term.{Term}
use Rattle.sqlite.specs.Tree.{Trees, rowid}
use Rattle.sqlite.specs.Table.{Table}
use Rattle.sqlite.specs.Source.TheVariants.{Values}
use Rattle.sqlite.specs.Command.TheVariants.{Insert}
use Rattle.sqlite.specs.Edit.{Edit, id_in, edit_of, with_rowid}
use Rattle.sqlite.specs.declared.types.Value.{Value}
use Rattle.sqlite.specs.declared.types.Value.TheVariants.{Null, Int}
use Rattle.sqlite.specs.Ops.{unary}
use Rattle.sqlite.specs.Kind.TheVariants.{Integer}
use Rattle.sqlite.specs.Cast.{cast, cast_row}
use Rattle.sqlite.specs.Rowids.TheVariants.{Chosen, Above}
use Rattle.sqlite_rules.specs.Action.{works, Writes}
use Rattle.sqlite_schema.specs.declared.schema.Keys.TheVariants.{Enforced}
use Rattle.sqlite.specs.Does.{Tally, Does, OnRows}
use Rattle.sqlite.specs.Rows.{Written, Task, stamped, sequence, count_of, rowids_for, Gives, Counter, CounterIn, Counts}
use Rattle.sqlite.specs.Rows.{CountsIn, Inserts, last_id}
use Rattle.sqlite.specs.Effect.{Database, value_rows}
use Rattle.sqlite.specs.declared.run.Mode.{Mode}
use Rattle.sqlite.proofs.Callers.{one_step}
use Rattle.tables.specs.Schema.{store_schema}
pub use Rattle.tables.specs.Inserted.{Inserted}

-- a step that gave a value did not stop on the way
pub went : {B E R : Type 0} {b : B} {Stops : E → Type 0} → ((stop : E) × Stops stop × (Ok b ≡ Err stop)) ⊎ R → R
went (inl stopped) = absurd (let e = stopped.2 in cc)
went (inr on) = on

pub same_value : {B E : Type 0} {a b : B} → ◌≡◌ {A = Result B E} (Ok a) (Ok b) → a ≡ b
same_value e = cc

abbrev pub enforced : Mode
enforced = record { keys = Enforced; in_doubt = false; may_wait = false }

module _ (limit : Option ℕ) (table : Table) (uncounted : table.is_counted ≡ false) (params : Row) where
  abbrev task : Task
  task = record { limit = limit; keys = Enforced; schema = store_schema; table = table; params = params }

  no_counter : (db : Trees) (counter : Option Row) → Counter task db (Ok counter) → counter ≡ None
  no_counter db counter h =
      same_value (subst (λ b. MatchBool b (CounterIn task db (sequence store_schema) (Ok counter))
      (Gives None (Ok counter))) uncounted h)

  not_counted : (mid next : Trees) (counter : Option Row) (top : ℤ) → Counts task mid counter top (Ok next) → next ≡ mid
  not_counted mid next counter top h =
      same_value (subst (λ b. MatchBool (cond b (is_lt (int_cmp (count_of counter) top)) false)
      (CountsIn task mid counter top (sequence store_schema) (Ok next)) (Gives mid (Ok next))) uncounted h)

  pub numbers : (top : ℤ) → rowids_for table top ≡ Chosen
  numbers top = ap (λ b. cond b (Above top) Chosen) uncounted

  module _ (terms : List Term) (width : ℕ) (source : Row)
      (single : value_rows (stamped table params) width (length terms / width) terms ≡ source ∷ [])
      (idle : (row : Row) → works store_schema Enforced 0 table.tree [] (row ∷ []) ≡ []) where
    abbrev pub new_row : Trees → Row
    new_row db = with_rowid Chosen (db table.tree) (cast_row table (drop 0 source))

    -- an INSERT of one row puts in that row, and the last row id is that of the row
    pub put_in : (db : Trees) (done : Written) → Inserts task (Values terms width) db (Ok done)
        → Inserted db done.trees table (new_row db) × (done.last ≡ Some (id_in (rowid (new_row db))))
    put_in db done h =
        let given = went h in
        let rows : given.0 ≡ source ∷ [] = given.1.1 ∙ single in
        let counter = went given.2 in
        let written = went counter.2 in
        let counted = went written.2 in
        let trees : done.trees ≡ written.0 = ap (λ (it : Written). it.trees) (same_value counted.2)
        ∙ not_counted written.0 counted.0 counter.0 _ counted.1 in
        let edit : edit_of db table [] (rowids_for table (count_of counter.0)) 0 given.0
        ≡ edit_of db table [] Chosen 0 (source ∷ []) =
        λ i. edit_of db table [] (numbers (count_of counter.0) i) 0 (rows i) in
        let applies = one_step store_schema Enforced db written.0 (edit_of db table [] Chosen 0 (source ∷ []))
        (idle (new_row db)) (subst (λ e. Writes store_schema Enforced db e (Ok written.0)) edit written.1) in (
          subst (λ t. Inserted db t table (new_row db)) (sym trees)
              (record { fresh = applies.fresh; rows = applies.rows; tables = applies.tables }),
          ap (λ (it : Written). it.last) (same_value counted.2) ∙ ap (λ (e : Edit). last_id e.news) edit,
        )

    concluded : (at : ℕ) (db : Trees) (tally : Tally) (after : Database)
        → OnRows task enforced None (Insert at (Values terms width)) db (Ok (tally, after))
        → (after.schema ≡ store_schema) × Inserted db after.trees table (new_row db)
        × (tally.last ≡ Some (id_in (rowid (new_row db))))
    concluded at db tally after h =
        let done = went h in
        let now = ap (λ (p : Tally × Database). p.1) (same_value (went (went done.2).2).2) in
        let put = put_in db done.0 done.1 in
        let noted = ap (λ (p : Tally × Database). p.0.last) (same_value (went (went done.2).2).2) in (
          ap (λ (d : Database). d.schema) now,
          subst (λ (d : Database). Inserted db d.trees table (new_row db)) (sym now) put.0,
          noted ∙ put.1,
        )

    pub inserted : (at : ℕ) → slice_get store_schema.tables at ≡ Some table
        → (db : Database) (text : List ℕ) (tally : Tally) (after : Database) → db.schema ≡ store_schema
        → Does limit enforced params db text None (Insert at (Values terms width)) (Ok (tally, after))
        → (after.schema ≡ store_schema) × Inserted db.trees after.trees table (new_row db.trees)
        × (tally.last ≡ Some (id_in (rowid (new_row db.trees))))
    inserted at listed db text tally after has h =
        let does = subst (λ s. Does limit enforced params (record db { schema = s }) text None
        (Insert at (Values terms width)) (Ok (tally, after))) has h in
        concluded at db.trees tally after (rw listed at does)

-- ---- values that a column takes as they are

either : (b : Bool) (x : Value) → cond b x x ≡ x
either true x = refl
either false x = refl

pub cast_int : (n : ℤ) → cast Integer (Int n) ≡ Int n
unfolding unary
cast_int n = either _ (Int n)

pub cast_null : cast Integer Null ≡ Null
unfolding unary
cast_null = either _ Null
