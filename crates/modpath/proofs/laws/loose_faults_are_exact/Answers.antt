use Rattle.modpath.proofs.FaultLaw.{loose_faults_are_exact}
use Rattle.modpath.proofs.laws.loose_faults_are_exact.Goals as goal

pub returns : goal.returns
returns c = loose_faults_are_exact
