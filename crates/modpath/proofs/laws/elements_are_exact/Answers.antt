use Rattle.modpath.proofs.StemLaw.{elements_are_exact}
use Rattle.modpath.proofs.laws.elements_are_exact.Goals as goal

pub returns : goal.returns
returns c = elements_are_exact
