use Rattle.machine.proofs.Served.{accepted_is_served}
use Rattle.machine.proofs.laws.acceptance.Goals as goal

pub returns : goal.returns
returns c = accepted_is_served
