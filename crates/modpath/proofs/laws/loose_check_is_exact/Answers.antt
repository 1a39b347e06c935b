use Rattle.modpath.proofs.PathLaw.{loose_check_is_exact}
use Rattle.modpath.proofs.laws.loose_check_is_exact.Goals as goal

pub returns : goal.returns
returns c = loose_check_is_exact
