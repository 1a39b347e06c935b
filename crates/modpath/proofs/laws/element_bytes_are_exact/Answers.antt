use Rattle.modpath.proofs.ElementLaw.{element_bytes_are_exact}
use Rattle.modpath.proofs.laws.element_bytes_are_exact.Goals as goal

pub returns : goal.returns
returns c = element_bytes_are_exact
