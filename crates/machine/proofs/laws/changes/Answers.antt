use Rattle.machine.proofs.Changes.{only_changes_change, bodies_change_nothing}
use Rattle.machine.proofs.laws.changes.Goals as goal

pub returns : goal.returns
returns c = record { others = only_changes_change; bodies = bodies_change_nothing }
