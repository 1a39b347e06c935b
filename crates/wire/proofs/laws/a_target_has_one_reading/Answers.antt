use Rattle.wire.proofs.TargetReadings.{one-reading}
use Rattle.wire.proofs.laws.a_target_has_one_reading.Goals as goal

pub returns : goal.returns
returns c = one-reading
