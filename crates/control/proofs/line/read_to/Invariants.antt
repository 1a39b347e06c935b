use Rattle.histories.specs.Account.{Gives}
use Rattle.control.specs.Line.{AsksWhileOpen, HasEnough, HasTried}
use Rattle.control.proofs.line.read_to.Given as goal

-- the bytes so far are what was read, by so many reads or by fewer, of which one failed; no line has ended in them, and
-- no read began once one had
abbrev pub invariant-loop : goal.invariant-loop
invariant-loop g l =
    let reads = g.R.Hear.reads in
    let account = g.R.Hear.account in
    Gives (account l.fn.reader) (account l.reader) l.got.items
    × HasTried l.counter (reads l.fn.reader) (reads l.reader)
    × AsksWhileOpen l.most (account l.fn.reader) (account l.reader) (reads l.fn.reader) (reads l.reader)
    × (¬ HasEnough l.most l.got.items)
