use Rattle.gomod.proofs.GoVersionLaw.{is_go_version-exact}
use Rattle.gomod.proofs.laws.go_versions_are_exact.Goals as goal

pub returns : goal.returns
returns c = is_go_version-exact
