use Rattle.modpath.proofs.BytesLaw.{paths_can_be_unescaped}
use Rattle.modpath.proofs.laws.paths_can_be_unescaped.Goals as goal

pub returns : goal.returns
returns c = paths_can_be_unescaped
