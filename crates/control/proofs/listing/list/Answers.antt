use Rattle.std.proofs.Common.{Err, refl}
use Rattle.control.proofs.ListingLemmas.{lists_told}
use Rattle.control.proofs.listing.list.Goals as goal

pub returns-in-Ok : goal.returns-in-Ok
returns-in-Ok g c = lists_told _ _ _ _ _ c.in-Ok.ensures (rw c.as_slice.ensures at c.tell.ensures)

pub returns-in-Err : goal.returns-in-Err
returns-in-Err g c = record { heard = Err c.in-Err.fault; reads = c.in-Err.ensures; tells = refl }
