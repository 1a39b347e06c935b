use Rattle.older.proofs.NoGroups.{answers_as_before}
use Rattle.older.proofs.laws.answers.Goals as goal

pub returns : goal.returns
returns c = answers_as_before
