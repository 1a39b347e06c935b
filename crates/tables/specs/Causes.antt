-- Why a call on the tables fails.
use Rattle.std.specs.Prelude.{◌≡◌, ◌⊎◌, ◌≤◌, ◌^◌, length, false, IsSome}
use Rattle.sqlite_disk.specs.Disk.{MoreFaults}
use Rattle.sqlite.specs.Effect.{Database}
use Rattle.sqlite.specs.State.{State}
use Rattle.sqlite.specs.declared.error.Error.{Error}
use Rattle.sqlite.specs.declared.error.Error.TheVariants.{SqliteFailure}
use Rattle.sqlite.specs.declared.error.ErrorCode.TheVariants.{OutOfMemory}
use Rattle.sqlite.specs.Table.{Table}
use Rattle.sqlite.specs.Schema.{Schema}
use Rattle.sqlite_rules.specs.Lists.{Has}
use Rattle.tables.specs.Schema.{store_schema}

-- the connection was closed or limited in its steps, or its disk failed in the call
abbrev pub IsHindered : State → State → Type 0
IsHindered old new = (old.is_open ≡ false) ⊎ (IsSome old.step_limit ⊎ MoreFaults old.faults new.faults)

-- the error says that memory ran out, or something hindered the call
abbrev pub IsExcused : State → State → Error → Type 0
IsExcused old new e = (e ≡ SqliteFailure OutOfMemory) ⊎ IsHindered old new

-- the tables are those of this schema, and one of them has at least as many rows as there are rowids
pub record IsVastOver (s : Schema) (db : Database) : Type 0 where
  pub schema : db.schema ≡ s
  pub table : Table
  pub listed : Has s.tables table
  pub rows : 2 ^ 64 ≤ length (db.trees table.tree)

abbrev pub IsVast : Database → Type 0
IsVast = IsVastOver store_schema

-- the error says that memory ran out, or something hindered the call, or a table of this schema is vast
abbrev pub HasReasonOver : Schema → State → State → Error → Type 0
HasReasonOver s old new e = IsExcused old new e ⊎ IsVastOver s old.now

abbrev pub HasReason : State → State → Error → Type 0
HasReason = HasReasonOver store_schema
