use Rattle.histories.proofs.StoppingLemmas.{waits_kept}
use Rattle.histories.proofs.TimingLemmas.{kept}
use Rattle.histories.proofs.deadline_reader.DeadlineReader.into_inner.Goals as goal

pub returns-clause-kept : goal.returns-clause-kept
returns-clause-kept g c = kept _ _ _ _ c.args.self.since

pub returns-clause-waits : goal.returns-clause-waits
returns-clause-waits g c = waits_kept _ c.args.self.stops
