use Rattle.commands.proofs.Rows.{rows_are_whole}
use Rattle.commands.proofs.laws.rows_are_whole.Goals as goal

pub returns : goal.returns
returns c = rows_are_whole
