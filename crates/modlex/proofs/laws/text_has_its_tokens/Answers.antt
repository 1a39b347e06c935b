use Rattle.modlex.proofs.TextTokens.{text_tokens-are}
use Rattle.modlex.proofs.laws.text_has_its_tokens.Goals as goal

pub returns : goal.returns
returns c = text_tokens-are
