-- Why a walk over the rows of an older store fails.
use Rattle.std.specs.Prelude.{◌≡◌, ℕ, List, Result, IfErr}
use Rattle.sqlite.specs.Effect.{Database}
use Rattle.sqlite.specs.State.{State}
use Rattle.sqlite.specs.declared.error.Error.{Error}
use Rattle.tables.specs.Calls.{HonestlyOver}
use Rattle.tables.specs.Causes.{IsVastOver, HasReasonOver}
use Rattle.tables.specs.Walks.{IsAllowed, ShowsTooManyOver}
use Rattle.older.specs.declared.schema.Format.{Format}
use Rattle.older.specs.Schemas.{schema_of}
use Rattle.statements.specs.declared.extract_rows.CopyError.{CopyError}
use Rattle.statements.specs.declared.extract_rows.CopyError.TheVariants.{Source, Fresh}

-- a table of the format has at least as many rows as there are rowids
abbrev pub IsVastAs : Format → Database → Type 0
IsVastAs format = IsVastOver (schema_of format)

-- the error says that memory ran out, or something hindered the call, or a table is vast
abbrev pub HasReasonAs : Format → State → State → Error → Type 0
HasReasonAs format = HasReasonOver (schema_of format)

-- an error of the older store has a reason, and an error of the fresh one needs none
abbrev pub HasReasonIf : Format → State → State → CopyError → Type 0
HasReasonIf format old new (Source e) = HasReasonAs format old new e
HasReasonIf format old new (Fresh e) = Unit {0}

-- a call over the tables of the format fails by the older store for a reason alone
abbrev pub FailsAs : {X : Type 0} → Format → State → State → Result X CopyError → Type 0
FailsAs format old new result =
    HonestlyOver (schema_of format) old new (λ old new. IfErr result (HasReasonIf format old new))

-- ---- a query that is walked over

-- only a limit on its steps refuses the query, and only a vast table makes it show too many rows
pub record IsWalkableAs (format : Format) (sql : List ℕ) : Type 0 where
  pub query : IsAllowed (schema_of format) sql
  pub vast : (db : Database) → db.schema ≡ schema_of format → ShowsTooManyOver (schema_of format) sql db
      → IsVastAs format db
