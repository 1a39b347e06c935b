use Rattle.machine.proofs.Faults.{needs_are_own, unknown_needs_nothing, needs_are_alike, faults_are_alike}
use Rattle.machine.proofs.laws.faults.Goals as goal

pub returns : goal.returns
returns c = record {
  own = needs_are_own;
  unknown = unknown_needs_nothing;
  alike = needs_are_alike;
  faults =
      faults_are_alike;
}
