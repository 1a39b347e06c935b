use Rattle.modlex.proofs.TextTokens.{text_tokens-order}
use Rattle.modlex.proofs.laws.tokens_are_in_order.Goals as goal

pub returns : goal.returns
returns c = text_tokens-order
