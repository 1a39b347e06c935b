use Rattle.modpath.proofs.ElementLaw.{first_elements_are_exact}
use Rattle.modpath.proofs.laws.first_elements_are_exact.Goals as goal

pub returns : goal.returns
returns c = first_elements_are_exact
