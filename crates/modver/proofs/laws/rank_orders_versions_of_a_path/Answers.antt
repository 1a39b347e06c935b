use Rattle.modver.proofs.Ranks.{rank-orders}
use Rattle.modver.proofs.laws.rank_orders_versions_of_a_path.Goals as goal

pub returns : goal.returns
returns c = rank-orders
