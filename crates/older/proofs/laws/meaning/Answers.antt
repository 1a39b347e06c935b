use Rattle.older.proofs.OneWorld.{mean_one}
use Rattle.older.proofs.NoGroups.{mean_no_group}
use Rattle.older.proofs.laws.meaning.Goals as goal

pub returns : goal.returns
returns c = record { one = mean_one; no_group = mean_no_group }
