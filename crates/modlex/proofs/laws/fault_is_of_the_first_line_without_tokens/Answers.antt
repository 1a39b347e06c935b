use Rattle.modlex.proofs.TextTokens.{text_tokens-fault}
use Rattle.modlex.proofs.laws.fault_is_of_the_first_line_without_tokens.Goals as goal

pub returns : goal.returns
returns c = text_tokens-fault
