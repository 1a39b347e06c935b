use Rattle.modpath.proofs.FaultLaw.{faults_are_exact}
use Rattle.modpath.proofs.laws.faults_are_exact.Goals as goal

pub returns : goal.returns
returns c = faults_are_exact
