use Rattle.modver.proofs.PseudoForms.{stamp-time}
use Rattle.modver.proofs.laws.stamp_has_a_time.Goals as goal

pub returns : goal.returns
returns c = stamp-time
