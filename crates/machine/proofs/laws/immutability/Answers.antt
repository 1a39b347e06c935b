use Rattle.machine.proofs.Served.{stays_served}
use Rattle.machine.proofs.laws.immutability.Goals as goal

pub returns : goal.returns
returns c = stays_served
