use Rattle.commands.proofs.Repeated.{repeated_import_changes_nothing}
use Rattle.commands.proofs.laws.repetition.Goals as goal

pub returns : goal.returns
returns c = repeated_import_changes_nothing
