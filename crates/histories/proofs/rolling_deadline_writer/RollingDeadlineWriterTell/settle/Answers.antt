use Rattle.histories.proofs.rolling_deadline_writer.RollingDeadlineWriterTell.settle.Goals as goal

pub invariant_of-self : goal.invariant_of-self
invariant_of-self g c = record { since = rw c.settle_once.ensures.waits c.args.self.now.since }
