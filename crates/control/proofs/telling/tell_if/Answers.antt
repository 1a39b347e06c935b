use Rattle.control.proofs.NotedLemmas.{its_line, no_line}
use Rattle.control.proofs.NoticeLemmas.{notices_none}
use Rattle.control.proofs.telling.tell_if.Goals as goal

pub returns-in_default-clause-notes : goal.returns-in_default-clause-notes
returns-in_default-clause-notes g c = notices_none _

pub returns-in_default-clause-tells : goal.returns-in_default-clause-tells
returns-in_default-clause-tells g c = no_line c.args.noted _ c.in_default.is

pub returns-clause-tells : goal.returns-clause-tells
returns-clause-tells g c = its_line c.in-Some.noted c.args.noted _ _ c.in-Some.is c.tell.ensures.tells
