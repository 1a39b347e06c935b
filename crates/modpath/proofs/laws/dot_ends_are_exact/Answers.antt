use Rattle.modpath.proofs.ElementLaw.{dot_ends_are_exact}
use Rattle.modpath.proofs.laws.dot_ends_are_exact.Goals as goal

pub returns : goal.returns
returns c = dot_ends_are_exact
