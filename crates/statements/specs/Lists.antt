-- What rows add to a set of texts.
use Rattle.std.specs.Prelude.{ℕ, List, ◌≡◌, ◌⊎◌, ◌↔◌, true}
use Rattle.std.specs.FinSet as set
use Rattle.sqlite.specs.declared.types.Value.TheVariants.{Text}
use Rattle.sqlite.specs.Order.{Row, column}
use Rattle.sqlite.specs.Effect.{Database, Reads}
use Rattle.sqlite.specs.Listing.{understood}
use Rattle.sqlite.proofs.Callers.{command_of}
use Rattle.tables.specs.Schema.{store_schema}
use Rattle.sqlite_rules.specs.Lists.{Has}
use Rattle.world.specs.World.{text_cmp}

-- the first value of some row is the text
abbrev pub IsShown : List Row → List ℕ → Type 0
IsShown rows t = (row : Row) × Has rows row × (column row 0 ≡ Text t)

-- `new` has the members of `old` and the texts that the rows show
abbrev pub AddsTexts : List Row → set.FinSet text_cmp → set.FinSet text_cmp → Type 0
AddsTexts rows old new = (t : List ℕ) → (set.contains new t ≡ true) ↔ ((set.contains old t ≡ true) ⊎ IsShown rows t)

-- `new` has the members of `old` and the texts that an answer to the query shows
pub record AddsAnswer (sql : List ℕ) (params : Row) (db : Database) (old new : set.FinSet text_cmp) : Type 0 where
  pub rows : List Row
  pub read : Reads (command_of (understood store_schema sql)) db params rows
  pub adds : AddsTexts rows old new
