use Rattle.modver.proofs.KeyRanks.{rank-law}
use Rattle.modver.proofs.laws.rank_key_is_rank.Goals as goal

pub returns : goal.returns
returns c = rank-law
