use Rattle.histories.proofs.deadline_writer.DeadlineWriterTell.tell.Goals as goal

pub invariant_of-self : goal.invariant_of-self
invariant_of-self g c = record { since = c.tell_in_time.ensures.since _ c.args.self.now.since }
