-- Each path and version that a shelf sees has one row in an inventory.
use Rattle.std.specs.Prelude.{ℕ, ◌≡◌, List, Bool, ◌&&◌, Some, Contains, filter, bytes_eq}
use Rattle.std.specs.FinMap as map
use Rattle.modver.specs.SemanticVersion.{SemanticVersion, version_text}
use Rattle.world.specs.Store.{Shown}
use Rattle.world.specs.Visible.{IsSeen}
use Rattle.world.specs.World.{World, IsWorld, view}
use Rattle.world.specs.declared.entry.Holder.{Holder}
use Rattle.world.specs.declared.entry.Seen.{Seen}
use Rattle.commands.specs.Inventory.{row_of, rows_seen, text_of}
use Rattle.commands.specs.declared.inventory.InventoryRow.{InventoryRow}

-- a row is of this path and version
abbrev pub is_of : List ℕ → List ℕ → InventoryRow → Bool
is_of p t r = bytes_eq r.path p && bytes_eq (version_text r.version) t

-- exactly one of these rows is of the path and the version, and it has what is seen of it
pub record HasOneRow (rows : List InventoryRow) (p t : List ℕ) (seen : Seen) : Type 0 where
  pub version : SemanticVersion
  pub text : version_text version ≡ t
  pub one : filter (is_of p t) rows ≡ row_of p version (Some seen)

-- each path and version that the shelf sees has exactly one row, and each row is of one that it sees
pub record AreRowsOf (w : World) (s : List ℕ) (rows : List InventoryRow) : Type 0 where
  pub each : (p t : List ℕ) (seen : Seen) → view w s p t ≡ Some seen → HasOneRow rows p t seen
  pub no_other : (r : InventoryRow) → Contains rows r → IsSeen w s r.path (version_text r.version)

-- In each world, the rows of an inventory are those of the shelf.
abbrev pub RowsAreWhole : Type 0
RowsAreWhole = (w : World) (s : List ℕ) → IsWorld w → AreRowsOf w s (rows_seen w s)

-- in this world the key belongs to a shelf, and the text is that of the shelf's rows
pub record TellsAll (w : World) (key text : List ℕ) : Type 0 where
  pub holder : Holder
  pub has_key : map.get w.keys key ≡ Some holder
  pub rows : List InventoryRow
  pub told : text ≡ text_of rows
  pub whole : AreRowsOf w holder.shelf rows

-- on an honest disk, the text is a whole inventory in each world that the store stood for
abbrev pub IsWhole : Shown → Shown → List ℕ → List ℕ → Type 0
IsWhole old new key text = new.is_honest → (w : World) → old.stands w → TellsAll w key text
