use Rattle.modlex.proofs.WordLemmas.{cut_escapes, cut_has_escape}
use Rattle.modlex.proofs.words.cut_escape.Goals as goal

pub returns-clause-value : goal.returns-clause-value
returns-clause-value c = cut_escapes c.args.text.now _ c.split_once.ensures.cases

pub returns-clause-escape : goal.returns-clause-escape
returns-clause-escape c = cut_has_escape c.args.text.now _ c.split_once.ensures.cases
