use Rattle.modpath.proofs.StemLaw.{stems_are_exact}
use Rattle.modpath.proofs.laws.stems_are_exact.Goals as goal

pub returns : goal.returns
returns c = stems_are_exact
