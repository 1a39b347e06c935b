-- Printing what a command reads from a store.
use Rattle.std.specs.Prelude.{ℕ, ◌≡◌, List, Bool, true, false, Option, Some, None, Result, Ok, Err, MatchResult}
use Rattle.std.specs.FinMap as map
use Rattle.std.specs.Io.KnownBytes.{Appends}
use Rattle.catalog.specs.Printing.{PrintsCatalog}
use Rattle.catalog.specs.declared.print.PrintError.{PrintError}
use Rattle.catalog.specs.declared.print.PrintError.TheVariants as unprinted
use Rattle.control.specs.Listing.{ReadsList}
use Rattle.modver.specs.Reading.{version_of}
use Rattle.orders.specs.declared.listing.Listing.{Listing}
use Rattle.world.specs.Forms.{path_of}
use Rattle.world.specs.Store.{Shown, Reads}
use Rattle.world.specs.declared.registry.StoreFault.{StoreFault}
use Rattle.world.specs.declared.registry.StoreFault.TheVariants as fault
use Rattle.commands.specs.Inventory.{Inventories}
use Rattle.commands.specs.Printed.{PrintsFront}
use Rattle.commands.specs.Requirements.{required_by}
use Rattle.commands.specs.declared.inventory.InventoryFault.{InventoryFault}
use Rattle.commands.specs.declared.inventory.InventoryFault.TheVariants as why
use Rattle.commands.specs.declared.refusal.CommandRefusal.{CommandRefusal}
use Rattle.commands.specs.declared.refusal.CommandRefusal.TheVariants.{NoKey, Device, Memory, NotFound, Io}
use Rattle.commands.specs.declared.report.Named.{Named}

-- the inventory, or the refusal if there is none
abbrev pub inventory_ending : Result (List ℕ) InventoryFault → Result (List ℕ) CommandRefusal
inventory_ending (Ok text) = Ok text
inventory_ending (Err why.NoKey) = Err NoKey
inventory_ending (Err why.Device) = Err Device
inventory_ending (Err why.Memory) = Err Memory

-- how a command ends that printed a catalog, or a beginning of it
abbrev pub catalog_ending : Result Bool PrintError → Result Bool CommandRefusal
catalog_ending (Ok true) = Ok true
catalog_ending (Ok false) = Err NoKey
catalog_ending (Err unprinted.Device) = Err Device
catalog_ending (Err unprinted.Memory) = Err Memory
catalog_ending (Err unprinted.Output) = Err Io

-- the lines of what a version requires, or the refusal if there are none
abbrev pub requirements_ending : Result (Option (List ℕ)) StoreFault → Result (List ℕ) CommandRefusal
requirements_ending (Ok (Some lines)) = Ok lines
requirements_ending (Ok None) = Err NotFound
requirements_ending (Err fault.Device) = Err Device
requirements_ending (Err fault.Memory) = Err Memory

-- a list, or the refusal if there is none
abbrev pub list_ending : Result (List ℕ) StoreFault → Result (List ℕ) CommandRefusal
list_ending (Ok text) = Ok text
list_ending (Err fault.Device) = Err Device
list_ending (Err fault.Memory) = Err Memory

-- The text was printed, or the output failed and a beginning of it was printed. If there is no text, the result is the
-- refusal, and nothing is printed.
abbrev pub Prints : Option (List ℕ) → Option (List ℕ) → Result Bool CommandRefusal → Result (List ℕ) CommandRefusal
    → Type 0
Prints written written_new result (Ok text) =
    MatchResult result
    (λ accepted. (accepted ≡ true) × Appends written written_new text)
    (λ e. (e ≡ Io) × PrintsFront written written_new text)
Prints written written_new result (Err refusal) = (result ≡ Err refusal) × (written_new ≡ written)

-- the inventory of a key was read, which changes nothing, and printed
pub record PrintsInventory
    (old new : Shown) (key : List ℕ) (written written_new : Option (List ℕ))
    (result : Result Bool CommandRefusal) : Type 0 where
  pub told : Result (List ℕ) InventoryFault
  pub inventories : Inventories old new key told
  pub prints : Prints written written_new result (inventory_ending told)

-- the catalog of a key was read, which changes nothing, and printed meanwhile
pub record PrintsCatalogOf
    (old new : Shown) (key : List ℕ) (written written_new : Option (List ℕ))
    (result : Result Bool CommandRefusal) : Type 0 where
  pub told : Result Bool PrintError
  pub prints : PrintsCatalog old new key written written_new told
  pub ends : result ≡ catalog_ending told

-- what a version requires was read, which changes nothing, and printed
pub record PrintsRequirements
    (old new : Shown) (version : Named) (written written_new : Option (List ℕ))
    (result : Result Bool CommandRefusal) : Type 0 where
  pub told : Result (Option (List ℕ)) StoreFault
  pub reads : Reads old new told
      (λ w. required_by w (map.get w.keys version.key.now) (path_of version.path.now) (version_of version.version.now))
  pub prints : Prints written written_new result (requirements_ending told)

-- a list of the store was read, which changes nothing, and printed
pub record PrintsList (old new : Shown) (listing : Listing) (written written_new : Option (List ℕ))
    (result : Result Bool CommandRefusal) : Type 0 where
  pub told : Result (List ℕ) StoreFault
  pub reads : ReadsList old new listing told
  pub prints : Prints written written_new result (list_ending told)
