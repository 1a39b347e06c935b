use Rattle.std.proofs.Common.{sym, ◌∙◌}
use Rattle.modlex.proofs.LineTokens.{first_of-all}
use Rattle.modlex.proofs.lexer.line_tokens.Goals as goal

pub returns : goal.returns
returns c = sym (first_of-all c.args.line c.args.start c.args.text.now) ∙ c.in_ok-first_tokens.ensures.value
