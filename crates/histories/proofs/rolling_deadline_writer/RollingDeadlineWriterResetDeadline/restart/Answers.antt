use Rattle.histories.proofs.StretchLemmas.{begun, ended}
use Rattle.histories.proofs.rolling_deadline_writer.RollingDeadlineWriterResetDeadline.restart.Goals as goal

pub invariant_of-self : goal.invariant_of-self
invariant_of-self g c = record {
  since = begun g.P.Deadline.allowed g.K.Start.calls _ _ _ c.new-self.ensures.first c.new-self.ensures.moved
      (ended g.P.Deadline.allowed g.K.Start.calls _ _ _ c.args.self.now.since);
}
