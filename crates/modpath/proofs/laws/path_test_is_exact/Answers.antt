use Rattle.modpath.proofs.PathLaw.{path_test_is_exact}
use Rattle.modpath.proofs.laws.path_test_is_exact.Goals as goal

pub returns : goal.returns
returns c = path_test_is_exact
