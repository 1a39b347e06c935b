-- The inventory of a key: a line of CSV for each version that its shelf sees.
use Rattle.std.specs.Prelude.{ℕ, ◌≡◌, List, [], ◌∷◌, ◌++◌, codes, decimal, length, Option, Some, None, Result, Ok, Err}
use Rattle.std.specs.List.{flat_map}
use Rattle.std.specs.FinMap as map
use Rattle.csv.specs.Writing.{row_text, default_writer}
use Rattle.modver.specs.Class.{class_of}
use Rattle.modver.specs.SemanticVersion.{SemanticVersion, version_text}
use Rattle.modver.specs.declared.version.Class.{Class}
use Rattle.modver.specs.declared.version.Class.TheVariants as class
use Rattle.outline.specs.declared.outlines.Outline.{Outline}
use Rattle.world.specs.Versions.{versions_of}
use Rattle.world.specs.Forms.{path_of}
use Rattle.world.specs.Lines.{in_order}
use Rattle.world.specs.Store.{Shown, Reads}
use Rattle.world.specs.Visible.{paths_seen}
use Rattle.world.specs.World.{World, view}
use Rattle.world.specs.declared.entry.Holder.{Holder}
use Rattle.world.specs.declared.entry.Seen.{Seen}
use Rattle.world.specs.declared.registry.StoreFault.{StoreFault}
use Rattle.world.specs.declared.registry.StoreFault.TheVariants as fault
use Rattle.commands.specs.declared.inventory.InventoryFault.{InventoryFault}
use Rattle.commands.specs.declared.inventory.InventoryFault.TheVariants as why
use Rattle.commands.specs.declared.inventory.InventoryRow.{InventoryRow}

-- ---- the rows

-- the row of a version, by what is seen of it; none if nothing is
abbrev pub row_of : List ℕ → SemanticVersion → Option Seen → List InventoryRow
row_of p v None = []
row_of p v (Some seen) =
    record {
      path = p;
      version = v;
      shelf = seen.shelf;
      time = seen.entry.time;
      gomod_bytes = length seen.entry.gomod;
      zip_bytes = length seen.entry.zip;
    }
    ∷ []

-- the row of a version, by the outline of what is seen of it; none if nothing is
abbrev pub outlined : List ℕ → SemanticVersion → Option Outline → List InventoryRow
outlined p v None = []
outlined p v (Some it) =
    record {
      path = p;
      version = v;
      shelf = it.shelf;
      time = it.time;
      gomod_bytes = it.gomod_bytes;
      zip_bytes = it.zip_bytes;
    } ∷ []

-- the row of a version that the shelf sees, or none if it does not
abbrev pub row_at : World → List ℕ → List ℕ → SemanticVersion → List InventoryRow
row_at w s p v = row_of p v (view w s p (version_text v))

-- the rows of the versions of a path that the shelf sees, by precedence
abbrev pub rows_of_path : World → List ℕ → List ℕ → List InventoryRow
rows_of_path w s p = flat_map (row_at w s p) (versions_of w s p)

-- the rows of the path that a text is, or none if it is no path
abbrev pub rows_at : World → List ℕ → Option (List ℕ) → List InventoryRow
rows_at w s None = []
rows_at w s (Some p) = rows_of_path w s p

abbrev pub rows_of_text : World → List ℕ → List ℕ → List InventoryRow
rows_of_text w s t = rows_at w s (path_of t)

-- the rows of all versions that the shelf sees: the paths by their bytes, the versions of each by precedence
abbrev pub rows_seen : World → List ℕ → List InventoryRow
rows_seen w s = flat_map (rows_of_text w s) (in_order (paths_seen w s))

-- ---- the text of rows

abbrev pub class_word : Class → List ℕ
class_word class.Release = codes "release"
class_word class.Pre = codes "pre"
class_word (class.Pseudo stamp) = codes "pseudo"

-- the field of a time, empty if there is none
abbrev pub time_field : Option (List ℕ) → List ℕ
time_field None = []
time_field (Some time) = time

abbrev pub header : List (List ℕ)
header = codes "path" ∷ codes "version" ∷ codes "shelf" ∷ codes "class" ∷ codes "time" ∷ codes "mod_bytes"
    ∷ codes "zip_bytes" ∷ []

abbrev pub fields : InventoryRow → List (List ℕ)
fields r =
    r.path ∷ version_text r.version ∷ r.shelf ∷ class_word (class_of r.version) ∷ time_field r.time
    ∷ decimal r.gomod_bytes ∷ decimal r.zip_bytes ∷ []

-- a line of CSV, with the defaults of the crate
unfoldable pub line : List (List ℕ) → List ℕ
line fs = row_text default_writer fs

-- the lines of these rows
abbrev pub lines_of : List InventoryRow → List ℕ
lines_of rows = flat_map (λ r. line (fields r)) rows

-- the header, and the lines of these rows
abbrev pub text_of : List InventoryRow → List ℕ
text_of rows = line header ++ lines_of rows

-- ---- the inventory

-- the inventory of a shelf
abbrev pub inventory_of_shelf : World → List ℕ → List ℕ
inventory_of_shelf w s = text_of (rows_seen w s)

-- the inventory of a key, or none if there is no such key
abbrev pub inventory_of : World → Option Holder → Option (List ℕ)
inventory_of w None = None
inventory_of w (Some h) = Some (inventory_of_shelf w h.shelf)

-- the result of an inventory, by what was read from the store
abbrev pub ending : Result (Option (List ℕ)) StoreFault → Result (List ℕ) InventoryFault
ending (Ok (Some text)) = Ok text
ending (Ok None) = Err why.NoKey
ending (Err fault.Device) = Err why.Device
ending (Err fault.Memory) = Err why.Memory

-- From old to new the inventory of the key was read, in each world that the store stood for, or a fault was met.
-- Nothing was changed, and the result is what was read.
pub record Inventories (old new : Shown) (key : List ℕ) (result : Result (List ℕ) InventoryFault) : Type 0 where
  pub told : Result (Option (List ℕ)) StoreFault
  pub reads : Reads old new told (λ w. inventory_of w (map.get w.keys key))
  pub ends : result ≡ ending told
