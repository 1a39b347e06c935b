-- Why an INSERT of one row is not done.
use Rattle.std.proofs.Common.{◌≡◌, ◌/◌, ◌++◌, ℕ, zero, suc, ℤ, false, cond, List, [], ◌∷◌, length, drop, slice_get}
use Rattle.std.proofs.Common.{Option, Some, None, Ok, Err, Result, inl, inr, ap, subst, ◌∙◌, MatchBool, is_lt, int_cmp}
use Rattle.std.specs.Prelude.{IsSome}
use Rattle.sqlite.specs.Order.{Row}
use Rattle.sqlite.specs.Term.{Term}
use Rattle.sqlite.specs.Tree.{Trees}
use Rattle.sqlite.specs.Table.{Table}
use Rattle.sqlite.specs.Source.TheVariants.{Values}
use Rattle.sqlite.specs.Command.TheVariants.{Insert}
use Rattle.sqlite_rules.specs.Edit.{edit_of, with_rowid, IsRefused, IsOversized}
use Rattle.sqlite_rules.specs.Action.{works, Work, Settles, Writes}
use Rattle.sqlite_rules.specs.declared.error.Refusal.{Refusal}
use Rattle.sqlite.specs.Cast.{cast_row}
use Rattle.sqlite.specs.Rowids.TheVariants.{Chosen}
use Rattle.sqlite_schema.specs.declared.schema.Keys.TheVariants.{Enforced}
use Rattle.sqlite_schema.specs.declared.schema.Among.TheVariants.{All}
use Rattle.sqlite_schema.specs.Rules.{Refers}
use Rattle.sqlite.specs.Does.{Does, OnRows}
use Rattle.sqlite.specs.Rows.{Task, stamped, Inserts, sequence, count_of, rowids_for, Gives, Counter, CounterIn, Counts}
use Rattle.sqlite.specs.Rows.{CountsIn}
use Rattle.sqlite.specs.Effect.{Database, RefusesSource, value_rows}
use Rattle.sqlite.specs.declared.error.Error.{Error}
use Rattle.tables.specs.Schema.{store_schema}
use Rattle.tables.specs.Inserted.{Inserted}
use Rattle.tables.proofs.InsertLemmas.{enforced, put_in, numbers}

-- nothing keeps the row out of the table, nor the table from being whole with it
pub record IsPuttable (table : Table) (db : Trees) (row : Row) : Type 0 where
  pub fine : (why : Refusal)
      → IsRefused store_schema Enforced db (record { table = table; gone = []; news = row ∷ [] }) why → ⊥
  pub fits : IsOversized store_schema table row → ⊥
  pub refers : (after : Trees) → Inserted db after table row → Refers All store_schema after

no_work : (below : List Work) (w : Work) → ◌≡◌ {A = List Work} [] (below ++ w ∷ []) → ⊥
no_work [] w e = absurd (cc)
no_work (b ∷ below) w e = absurd (cc)

module _ (limit : Option ℕ) (table : Table) (uncounted : table.is_counted ≡ false) (terms : List Term) (width : ℕ)
    (source : Row) (single : value_rows (stamped table []) width (length terms / width) terms ≡ source ∷ [])
    (idle : (row : Row) → works store_schema Enforced 0 table.tree [] (row ∷ []) ≡ [])
    (given : (db : Database) (e : Error) → RefusesSource limit db (stamped table []) (Values terms width) e
    → IsSome limit) where
  abbrev task : Task
  task = record { limit = limit; keys = Enforced; schema = store_schema; table = table; params = [] }

  settled : (next : Trees) (why : Option Refusal) → Settles store_schema Enforced next [] (Err why) → ⊥
  settled next why (zero, led) = let e = led.1 in absurd (cc)
  settled next why (suc n, led) = no_work led.0 led.1 led.2

  always_counts : (db : Trees) (stop : Option Error) → Counter task db (Err stop) → ⊥
  always_counts db stop h = let e : ◌≡◌ {A = Result (Option Row) (Option Error)} (Err stop) (Ok None) =
      subst (λ b. MatchBool b (CounterIn task db (sequence store_schema) (Err stop))
      (Gives {A = Option Row} None (Err stop))) uncounted h in absurd (cc)

  never_counted : (mid : Trees) (counter : Option Row) (top : ℤ) (stop : Option Error)
      → Counts task mid counter top (Err stop) → ⊥
  never_counted mid counter top stop h =
      let e : ◌≡◌ {A = Result Trees (Option Error)} (Err stop) (Ok mid) =
      subst (λ b. MatchBool (cond b (is_lt (int_cmp (count_of counter) top)) false)
      (CountsIn task mid counter top (sequence store_schema) (Err stop)) (Gives {A = Trees} mid (Err stop))) uncounted
      h in absurd (cc)

  module _ (db : Trees) (row : Row) (is : with_rowid Chosen (db table.tree) (cast_row table (drop 0 source)) ≡ row)
      (it : IsPuttable table db row) where
    wrote : (why : Option Refusal)
        → Writes store_schema Enforced db (record { table = table; gone = []; news = row ∷ [] }) (Err why) → ⊥
    wrote why (inl refused) = it.fine refused.0 refused.1
    wrote why (inr (inl (big, inl same, over, e))) = it.fits (subst (IsOversized store_schema table) same over)
    wrote why (inr (inl (big, inr none, over, e))) = none
    wrote why (inr (inr applied)) =
        settled applied.0 why (subst (λ w. Settles store_schema Enforced applied.0 w (Err why)) (idle row) applied.2)

    -- an INSERT of one row that may be put in stops only at a limit
    put_stops : (stop : Option Error) → Inserts task (Values terms width) db (Err stop) → IsSome limit
    put_stops stop (inl (None, none, e)) = absurd none
    put_stops stop (inl (Some error, refused, e)) = given (record { schema = store_schema; trees = db }) error refused
    put_stops stop (inr (rows, from, inl (first, stopped, e))) = absurd (always_counts db first stopped)
    put_stops stop (inr (rows, from, inr (counter, counted, inl (first, stopped, e)))) =
        let all : rows ≡ source ∷ [] = from.1 ∙ single in
        let edit : edit_of db table [] (rowids_for table (count_of counter)) 0 rows
        ≡ record { table = table; gone = []; news = row ∷ [] } =
        (λ i. edit_of db table [] (numbers limit table uncounted [] (count_of counter) i) 0 (all i))
        ∙ ap (λ r. record { table = table; gone = []; news = r ∷ [] }) is in
        absurd (wrote stopped.0 (subst (λ e. Writes store_schema Enforced db e (Err stopped.0)) edit stopped.1))
    put_stops stop (inr (rows, from, inr (counter, counted, inr (mid, written, inl (first, stopped, e))))) =
        absurd (never_counted mid counter _ first stopped)
    put_stops stop (inr (rows, from, inr (counter, counted, inr (mid, written, inr (next, done, e))))) = absurd (cc)

    concluded_stops : (at : ℕ) (stop : Option Error)
        → OnRows task enforced None (Insert at (Values terms width)) db (Err stop) → IsSome limit
    concluded_stops at stop (inl (first, stopped, e)) = put_stops first stopped
    concluded_stops at stop (inr (done, inserted, inl (None, tested, e))) = absurd (let w = tested.1 in cc)
    concluded_stops at stop (inr (done, inserted, inl (Some error, tested, e))) =
        absurd (tested.0 (it.refers done.trees
        (subst (Inserted db done.trees table) is
        (put_in limit table uncounted [] terms width source single idle db done inserted).0)))
    concluded_stops at stop (inr (done, inserted, inr (doubt, tested, inl (first, stopped, e)))) =
        absurd (let w = stopped in cc)
    concluded_stops at stop (inr (done, inserted, inr (doubt, tested, inr (rows, shown, e)))) = absurd (cc)

  -- only a limit on the steps keeps it from being done
  pub insert_stops : (at : ℕ) → slice_get store_schema.tables at ≡ Some table → (db : Database) (row : Row)
      → with_rowid Chosen (db.trees table.tree) (cast_row table (drop 0 source)) ≡ row → IsPuttable table db.trees row
      → db.schema ≡ store_schema
      → (text : List ℕ) (stop : Option Error)
      → Does limit enforced [] db text None (Insert at (Values terms width)) (Err stop) → IsSome limit
  insert_stops at listed db row is it has text stop h =
      let does = subst (λ s. Does limit enforced [] (record db { schema = s }) text None
      (Insert at (Values terms width)) (Err stop)) has h in
      concluded_stops db.trees row is it at stop (rw listed at does)
