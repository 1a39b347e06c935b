-- Which number a new row of `version` gets.
use Rattle.std.specs.Prelude.{◌≡◌, ◌<ℤ◌, ℕ, ℤ, pos, negsuc, List, Option, Some, None}
use Rattle.sqlite.specs.declared.types.Value.TheVariants.{Int}
use Rattle.sqlite.specs.Order.{Row, column}
use Rattle.sqlite.specs.Tree.{rowid}
use Rattle.sqlite.specs.Effect.{Database}
use Rattle.sqlite_rules.specs.Lists.{Has}
use Rattle.statements.specs.Calls.{Selects}

-- the greatest number that a row can have
abbrev pub last : ℤ
last = pos 9223372036854775807

-- the least number that a row can have
abbrev pub first : ℤ
first = negsuc 9223372036854775807

abbrev pub HasNumber : List Row → ℤ → Type 0
HasNumber rows n = (row : Row) × Has rows row × (rowid row ≡ Int n)

-- n is less than the number of each row, and so free
abbrev pub IsBelowEach : List Row → ℤ → Type 0
IsBelowEach rows n = (row : Row) → Has rows row → (m : ℤ) → rowid row ≡ Int m → n <ℤ m

-- if a row has a number, a row has the first
abbrev pub LacksOrHasFirst : List Row → Type 0
LacksOrHasFirst rows = (n : ℤ) → HasNumber rows n → HasNumber rows first

-- A number is chosen only if a row has the last number, and it is less than the number of each row. None is chosen only
-- if no row has the last number, or one has the first.
abbrev pub IsChosen : List Row → Option ℤ → Type 0
IsChosen rows (Some n) = HasNumber rows last × IsBelowEach rows n
IsChosen rows None = HasNumber rows last → HasNumber rows first

-- the first row of an answer to the query shows the number; None: the answer is empty
abbrev pub ShowsNumber : List ℕ → Row → Database → Option ℤ → Type 0
ShowsNumber sql params db (Some n) = (row : Row) × Selects sql params db (Some row) × (column row 0 ≡ Int n)
ShowsNumber sql params db None = Selects sql params db None
