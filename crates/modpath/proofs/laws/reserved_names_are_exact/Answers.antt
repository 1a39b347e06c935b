use Rattle.modpath.proofs.ReservedLaw.{reserved_names_are_exact}
use Rattle.modpath.proofs.laws.reserved_names_are_exact.Goals as goal

pub returns : goal.returns
returns c = reserved_names_are_exact
