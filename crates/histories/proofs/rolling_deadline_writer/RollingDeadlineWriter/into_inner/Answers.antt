use Rattle.histories.proofs.StretchLemmas.{ended}
use Rattle.histories.proofs.rolling_deadline_writer.RollingDeadlineWriter.into_inner.Goals as goal

pub returns-clause-kept : goal.returns-clause-kept
returns-clause-kept g c = ended g.P.Deadline.allowed g.K.Start.calls _ _ _ c.args.self.since
