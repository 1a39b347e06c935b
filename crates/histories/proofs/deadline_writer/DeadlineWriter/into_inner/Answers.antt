use Rattle.histories.proofs.TimingLemmas.{kept}
use Rattle.histories.proofs.deadline_writer.DeadlineWriter.into_inner.Goals as goal

pub returns-clause-kept : goal.returns-clause-kept
returns-clause-kept g c = kept _ _ _ _ c.args.self.since
