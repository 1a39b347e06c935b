use Rattle.modver.proofs.SemVerOrders.{precedence-semver}
use Rattle.modver.proofs.laws.precedence_is_semver.Goals as goal

pub returns : goal.returns
returns c = precedence-semver
