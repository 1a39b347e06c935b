use Rattle.histories.proofs.StretchLemmas.{begun, kept_same}
use Rattle.histories.proofs.rolling_deadline_writer.RollingDeadlineWriter.new.Goals as goal

pub invariant_of-result : goal.invariant_of-result
invariant_of-result g c = record {
  since = begun g.P.Deadline.allowed g.K.Start.calls _ _ _ c.new.ensures.first c.new.ensures.moved
      (kept_same g.P.Deadline.allowed g.K.Start.calls _ c.requires);
}
