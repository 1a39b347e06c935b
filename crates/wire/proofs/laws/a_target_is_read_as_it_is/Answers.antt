use Rattle.wire.proofs.TargetReadings.{target-reads}
use Rattle.wire.proofs.laws.a_target_is_read_as_it_is.Goals as goal

pub returns : goal.returns
returns c = target-reads
