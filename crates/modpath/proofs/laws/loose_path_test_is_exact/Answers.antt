use Rattle.modpath.proofs.PathLaw.{loose_path_test_is_exact}
use Rattle.modpath.proofs.laws.loose_path_test_is_exact.Goals as goal

pub returns : goal.returns
returns c = loose_path_test_is_exact
