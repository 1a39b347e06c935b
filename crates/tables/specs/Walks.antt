-- Tests of the tables, which read them and write nothing, and walks that test one row after the other.
use Rattle.std.specs.Prelude.{◌≡◌, ◌≤◌, ◌<◌, ◌⊎◌, ◌+◌, ◌^◌, ℕ, Bool, true, false, if◌then◌else◌, List, [], ◌∷◌}
use Rattle.std.specs.Prelude.{◌++◌, length, Option, Some, None, IsSome, Result, Ok, Err, IfOk, OnOk, Decides}
use Rattle.sqlite_trees.specs.View.{doubt}
use Rattle.sqlite.specs.Tree.{Trees}
use Rattle.sqlite.specs.Order.{Row}
use Rattle.sqlite.specs.declared.error.Error.{Error}
use Rattle.sqlite.specs.State.{State, HasCleanDisk, IsUnchanged, IsRolledBack}
use Rattle.sqlite.specs.Effect.{Database, Reads, ReadsFirst, RefusesToRead}
use Rattle.sqlite_resolve.specs.declared.compiled.Compiled.{Compiled}
use Rattle.sqlite_resolve.specs.declared.error.CompileError.{CompileError}
use Rattle.sqlite.specs.Listing.{understood}
use Rattle.sqlite.specs.Schema.{Schema}
use Rattle.sqlite.proofs.Callers.{command_of}
use Rattle.world.specs.declared.entry.Place.{Place}
use Rattle.world.specs.World.{version_limit}
use Rattle.tables.specs.declared.pieces.LastPiece.{LastPiece}
use Rattle.tables.specs.Schema.{store_schema}
use Rattle.tables.specs.Fit.{is_on}

-- A disk in doubt stays in doubt. If no answer of the disk was wrong and the connection had the tables of the schema,
-- the call leaves the state as it was or rolls the transaction back, keeps the step limit, forgets no fault, and a
-- crash leaves nothing that it did not leave before.
pub record Looks (old new : State) : Type 0 where
  pub clean : doubt old.is_clean ≤ doubt new.is_clean
  pub left : HasCleanDisk new → old.now.schema ≡ store_schema → (db : Trees) → new.may_leave db → old.may_leave db
  pub outcome : HasCleanDisk new → old.now.schema ≡ store_schema → IsUnchanged old new ⊎ IsRolledBack old new
  pub limit : HasCleanDisk new → old.now.schema ≡ store_schema → new.step_limit ≡ old.step_limit
  pub counts : HasCleanDisk new → old.now.schema ≡ store_schema → old.faults ≤ new.faults

-- the call only reads; if it succeeds, it changed nothing and returns whether this holds of the tables
pub record Tests (old new : State) (result : Result Bool Error) (P : Trees → Type 0) : Type 0 where
  pub looks : Looks old new
  pub same : HasCleanDisk new → old.now.schema ≡ store_schema → OnOk result (IsUnchanged old new)
  pub answer : HasCleanDisk new → old.now.schema ≡ store_schema → IfOk result (λ b. Decides b (P old.now.trees))

module _ {X : Type 0} (Fits : X → Row → Type 0) (Keeps : X → Row → X → Type 0) where
  -- each row fits, given what is noted of those before it
  abbrev pub Pass : X → List Row → X → Type 0
  Pass noted [] end = end ≡ noted
  Pass noted (r ∷ rows) end = Fits noted r × (next : X) × Keeps noted r next × Pass next rows end

  -- for true, each row that the query shows fits; for false, one of them does not, after rows that do
  abbrev pub Walks : List ℕ → Database → X → X → Bool → Type 0
  Walks sql db start end true = (rows : List Row) × Reads (command_of (understood store_schema sql)) db [] rows
      × Pass start rows end
  Walks sql db start end false =
      (rows : List Row) × (row : Row) × (noted : X)
      × ReadsFirst (command_of (understood store_schema sql)) db [] (rows ++ row ∷ [])
      × Pass start rows noted × (Fits noted row → ⊥)

-- ---- the queries that a walk can use

-- the text is one statement, with no parameter
abbrev pub IsAlone : List ℕ → Result Compiled CompileError → Type 0
IsAlone sql (Ok c) = (length sql ≤ c.tail) × (c.names ≡ [])
IsAlone sql (Err e) = ⊥

-- only a limit on its steps can refuse the query over the tables of this schema
pub record IsAllowed (schema : Schema) (sql : List ℕ) : Type 0 where
  pub alone : IsAlone sql (understood schema sql)
  pub allowed : (limit : Option ℕ) (db : Database) (e : Error) → db.schema ≡ schema
      → RefusesToRead limit (command_of (understood schema sql)) db [] e → IsSome limit

-- only a limit on its steps can refuse the query, and each row that it shows has this many values
pub record IsWalkable (sql : List ℕ) (width : ℕ) : Type 0 where
  pub query : IsAllowed store_schema sql
  pub wide : (db : Database) (rows : List Row) (row : Row)
      → ReadsFirst (command_of (understood store_schema sql)) db [] (rows ++ row ∷ []) → length row ≡ width

-- the query shows at least as many rows as a walk counts, which is 2 ^ 128 - 1
abbrev pub ShowsTooManyOver : Schema → List ℕ → Database → Type 0
ShowsTooManyOver schema sql db =
    (rows : List Row) × ReadsFirst (command_of (understood schema sql)) db [] rows × (2 ^ 128 ≤ length rows + 1)

abbrev pub ShowsTooMany : List ℕ → Database → Type 0
ShowsTooMany = ShowsTooManyOver store_schema

-- ---- one place after another, in order

-- a place may follow the last one, if there is one, given how many versions of the last one's path on its shelf have
-- come
abbrev pub MayFollow : Option Place → ℕ → Place → Type 0
MayFollow None many q = Unit {0}
MayFollow (Some p) many q = (p ≡ q → ⊥) × (is_on p.shelf p.path q ≡ true → many < version_limit)

-- how many versions of its path on its shelf have come with this place
abbrev pub run_with : Option Place → ℕ → Place → ℕ
run_with None many q = 1
run_with (Some p) many q = if is_on p.shelf p.path q then many + 1 else 1

-- ---- one piece after another, in order

-- a piece may follow another: as the next of its version if that one is full, or as the first of another version
pub record GoesOn (last piece : LastPiece) : Type 0 where
  pub next : last.version ≡ piece.version → (last.is_full ≡ true) × (piece.number ≡ last.number + 1)
  pub first : (last.version ≡ piece.version → ⊥) → piece.number ≡ 0

-- a piece may follow the last one, if there is one
abbrev pub MayGoOn : Option LastPiece → LastPiece → Type 0
MayGoOn None piece = piece.number ≡ 0
MayGoOn (Some last) piece = GoesOn last piece
