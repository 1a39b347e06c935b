use Rattle.machine.proofs.Told.{list_is_told, list_is_not_found}
use Rattle.machine.proofs.laws.listing.Goals as goal

pub returns : goal.returns
returns c = record { told = list_is_told; not_found = list_is_not_found }
