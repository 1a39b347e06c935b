use Rattle.engine.proofs.HeadlineLemmas.{bytes_stay_served}
use Rattle.engine.proofs.laws.immutability.Goals as goal

pub returns : goal.returns
returns c = bytes_stay_served
