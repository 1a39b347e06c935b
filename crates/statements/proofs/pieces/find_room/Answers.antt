use Rattle.std.proofs.Common.{refl}
use Rattle.sqlite.specs.Listing.{understood}
use Rattle.sqlite_tied.specs.Compute.{everything}
use Rattle.statements.proofs.pieces.find_room.Goals as goal

pub find_row-requires-clause-plain : goal.find_row-requires-clause-plain
unfolding understood everything
find_row-requires-clause-plain g c = (refl, refl)

pub find_row-requires-clause-tables : goal.find_row-requires-clause-tables
unfolding understood everything
find_row-requires-clause-tables g c = refl
