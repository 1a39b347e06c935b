use Rattle.modver.proofs.RankCases.{rank-by_class}
use Rattle.modver.proofs.laws.rank_is_by_class.Goals as goal

pub returns : goal.returns
returns c = rank-by_class
