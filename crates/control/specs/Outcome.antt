-- The outcomes of what is done for an order.
use Rattle.std.specs.Prelude.{Result, Ok, Err}
use Rattle.world.specs.declared.registry.RegistryReply.{RegistryReply}
use Rattle.world.specs.declared.registry.RegistryReply.TheVariants as registered
use Rattle.world.specs.declared.registry.StoreFault.{StoreFault}
use Rattle.world.specs.declared.registry.StoreFault.TheVariants as fault
use Rattle.control.specs.declared.copies.CatalogRefusal.{CatalogRefusal}
use Rattle.control.specs.declared.copies.CatalogRefusal.TheVariants as catalog
use Rattle.control.specs.declared.copies.CopyRefusal.{CopyRefusal}
use Rattle.control.specs.declared.copies.CopyRefusal.TheVariants as copy
use Rattle.orders.specs.declared.outcome.Outcome.{Outcome}
use Rattle.orders.specs.declared.outcome.Outcome.TheVariants as outcome

-- the outcome of a registry command that was carried out with this result
abbrev pub outcome_of : Result RegistryReply StoreFault → Outcome
outcome_of (Ok r) = outcome.RegistryReply r
outcome_of (Err f) = outcome.Failed f

-- the outcome of a copy with this result
abbrev pub outcome_of_copy : Result (Unit {0}) CopyRefusal → Outcome
outcome_of_copy (Ok done) = outcome.RegistryReply registered.Done
outcome_of_copy (Err copy.NotEmpty) = outcome.NotEmpty
outcome_of_copy (Err copy.Device) = outcome.Failed fault.Device
outcome_of_copy (Err copy.Memory) = outcome.Failed fault.Memory
outcome_of_copy (Err copy.Busy) = outcome.Busy
outcome_of_copy (Err copy.Ended) = outcome.Ended

-- the outcome of a catalog with this result; where the output failed, none is told
abbrev pub outcome_of_catalog : Result (Unit {0}) CatalogRefusal → Outcome
outcome_of_catalog (Ok done) = outcome.RegistryReply registered.Done
outcome_of_catalog (Err catalog.NoKey) = outcome.RegistryReply registered.NoKey
outcome_of_catalog (Err catalog.Device) = outcome.Failed fault.Device
outcome_of_catalog (Err catalog.Memory) = outcome.Failed fault.Memory
outcome_of_catalog (Err catalog.Busy) = outcome.Busy
outcome_of_catalog (Err catalog.Ended) = outcome.Ended
outcome_of_catalog (Err catalog.Output) = outcome.Ended
