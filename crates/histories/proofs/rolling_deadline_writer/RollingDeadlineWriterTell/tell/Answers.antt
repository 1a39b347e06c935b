use Rattle.histories.proofs.StretchLemmas.{goes_on}
use Rattle.histories.proofs.rolling_deadline_writer.RollingDeadlineWriterTell.tell.Goals as goal

pub invariant_of-self : goal.invariant_of-self
invariant_of-self g c = record {
  since = goes_on g.P.Deadline.allowed g.K.Start.calls _ _ _ _ _ _ c.tell_in_time.ensures.since c.args.self.now.since;
}
