use Rattle.modver.proofs.StrictOrders.{precedence-orders}
use Rattle.modver.proofs.laws.precedence_orders_versions_of_a_path.Goals as goal

pub returns : goal.returns
returns c = precedence-orders
