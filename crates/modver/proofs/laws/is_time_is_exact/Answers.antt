use Rattle.modver.proofs.Times.{time-exact}
use Rattle.modver.proofs.laws.is_time_is_exact.Goals as goal

pub returns : goal.returns
returns c = time-exact
