use Rattle.std.proofs.Common.{refl}
use Rattle.histories.specs.declared.call.Call.TheVariants.{Begins, Moves, Refused}
use Rattle.histories.proofs.StoppingLemmas.{waits_more}
use Rattle.histories.proofs.TimingLemmas.{moves, fails, refuses}
use Rattle.histories.proofs.deadline_reader.DeadlineReaderHear.hear.Goals as goal

pub invariant_of-self : goal.invariant_of-self
invariant_of-self g c = record {
  since = refuses _ _ _ _ _ c.refuse.ensures.noted c.in-Err.ensures.late;
  stops = waits_more Refused _ _ tt c.refuse.ensures.noted c.bound.new.self.stops;
}

pub invariant_of-self-in-Break-1 : goal.invariant_of-self-in-Break-1
invariant_of-self-in-Break-1 g c = record {
  since = fails _ _ _ _ _ c.in_err-n.ensures.noted c.in_default.ensures.ready;
  stops = waits_more Begins _ _ tt c.in_err-n.ensures.noted c.bound.new.self.stops;
}

pub invariant_of-self-2 : goal.invariant_of-self-2
invariant_of-self-2 g c = record {
  since = rw c.count.ensures.first
      (moves _ _ _ _ _ _ _ c.in_ok-n.ensures.noted c.count.ensures.moved c.in_default.ensures.ready);
  stops = waits_more (Moves c.in_ok-n.n) _ _ tt c.in_ok-n.ensures.noted
      (waits_more Begins _ _ tt refl c.bound.new.self.stops);
}
