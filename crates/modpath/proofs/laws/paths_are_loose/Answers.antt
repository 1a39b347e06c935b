use Rattle.modpath.proofs.PathLaw.{paths_are_loose}
use Rattle.modpath.proofs.laws.paths_are_loose.Goals as goal

pub returns : goal.returns
returns c = paths_are_loose
