use Rattle.machine.proofs.Isolated.{isolated}
use Rattle.machine.proofs.laws.isolation.Goals as goal

pub returns : goal.returns
returns c = isolated
