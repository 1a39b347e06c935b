use Rattle.std.proofs.Common.{sym}
use Rattle.control.proofs.NotedLemmas.{held_fault, its_fault, no_fault}
use Rattle.control.proofs.NoticeLemmas.{notices_none}
use Rattle.control.proofs.telling.tell_next.Goals as goal

pub returns-in_default-clause-notes : goal.returns-in_default-clause-notes
returns-in_default-clause-notes g c = notices_none _

pub returns-in_default-clause-tells : goal.returns-in_default-clause-tells
returns-in_default-clause-tells g c =
    no_fault c.args.faults.now c.args.watched.now.notice _ (sym c.in_default.ensures.value)

pub returns-then-not-admits-clause-notes : goal.returns-then-not-admits-clause-notes
returns-then-not-admits-clause-notes g c = notices_none _

pub returns-then-not-admits-clause-tells : goal.returns-then-not-admits-clause-tells
returns-then-not-admits-clause-tells g c =
    held_fault c.args.faults.now c.admits.new.self _ c.in-Some.noted c.args.watched.now.notice _
    (sym c.in-Some.ensures.value)
    (rw (c.noted_line.ensures.value, c.if-not-admits.true) at c.admits.ensures)

pub returns-clause-tells : goal.returns-clause-tells
returns-clause-tells g c =
    its_fault c.args.faults.now c.admits.new.self _ c.in-Some.noted c.args.watched.now.notice _ _
    (sym c.in-Some.ensures.value)
    (rw (c.noted_line.ensures.value, c.if-not-admits.false) at c.admits.ensures) c.tell.ensures.tells
