use Rattle.slices.proofs.HoldLemmas.{lacks_none}
use Rattle.slices.proofs.laws.nothing_left.Goals as goal

pub returns : goal.returns
returns c = lacks_none
