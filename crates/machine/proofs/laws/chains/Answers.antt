use Rattle.machine.proofs.Chains.{chains_stay}
use Rattle.machine.proofs.laws.chains.Goals as goal

pub returns : goal.returns
returns c = chains_stay
