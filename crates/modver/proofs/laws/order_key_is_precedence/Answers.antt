use Rattle.modver.proofs.KeyRanks.{order-law}
use Rattle.modver.proofs.laws.order_key_is_precedence.Goals as goal

pub returns : goal.returns
returns c = order-law
