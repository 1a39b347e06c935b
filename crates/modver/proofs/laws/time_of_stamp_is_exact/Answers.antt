use Rattle.modver.proofs.Times.{stamp-exact}
use Rattle.modver.proofs.laws.time_of_stamp_is_exact.Goals as goal

pub returns : goal.returns
returns c = stamp-exact
