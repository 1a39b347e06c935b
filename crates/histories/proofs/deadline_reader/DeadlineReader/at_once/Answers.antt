use Rattle.histories.proofs.StoppingLemmas.{waits_stopped}
use Rattle.histories.proofs.TimingLemmas.{stopped_first}
use Rattle.histories.proofs.deadline_reader.DeadlineReader.at_once.Goals as goal

pub invariant_of-result : goal.invariant_of-result
invariant_of-result g c = record {
  since = stopped_first _ _ _ _ c.new.ensures.first c.new.ensures.moved c.requires.calls c.in-Ok.ensures.noted;
  stops = waits_stopped _ _ c.requires.waits c.requires.calls c.in-Ok.ensures.noted;
}
