use Rattle.machine.proofs.Repeated.{repeated_list_changes_nothing}
use Rattle.machine.proofs.laws.repetition.Goals as goal

pub returns : goal.returns
returns c = repeated_list_changes_nothing
