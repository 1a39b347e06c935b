use Rattle.modlex.proofs.Lines.{cut_lines}
use Rattle.modlex.proofs.lexer.cut_line.Goals as goal

pub returns-clause-lines : goal.returns-clause-lines
returns-clause-lines c = cut_lines c.args.text.now _ c.split_once.ensures.cases
