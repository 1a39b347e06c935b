use Rattle.tables.proofs.OneWorld.{stand_for_one}
use Rattle.tables.proofs.laws.meaning.Goals as goal

pub returns : goal.returns
returns c = stand_for_one
