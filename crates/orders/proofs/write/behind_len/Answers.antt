use Rattle.orders.proofs.WritingLemmas.{behind_text}
use Rattle.orders.proofs.write.behind_len.Goals as goal

pub returns-clause-utf8 : goal.returns-clause-utf8
returns-clause-utf8 c = behind_text c.args.word.now c.word_len.ensures.utf8
