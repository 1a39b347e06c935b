use Rattle.modver.proofs.PseudoForms.{stamp-of}
use Rattle.modver.proofs.laws.stamp_of_is_exact.Goals as goal

pub returns : goal.returns
returns c = stamp-of
