use Rattle.wire.proofs.TargetReadings.{reads-if_ok}
use Rattle.wire.proofs.targets.target.Goals as goal

pub returns-clause-reads : goal.returns-clause-reads
returns-clause-reads c = reads-if_ok c.args.method.now c.args.target.now c.read_target.result c.read_target.ensures
