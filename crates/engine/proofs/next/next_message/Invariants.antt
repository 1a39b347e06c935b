use Rattle.std.proofs.Common.{◌≤◌}
use Rattle.engine.specs.Causes.{AsksWhileUnfinished, Spends}
use Rattle.engine.specs.Session.{ReadSoFar}
use Rattle.engine.proofs.next.next_message.Given as goal

abbrev pub invariant-loop-next : goal.invariant-loop-next
invariant-loop-next g l =
    let account = g.R.Hear.account in
    let reads = g.R.Hear.reads in
    ReadSoFar l.fn.framer l.framer (account l.fn.reader) (account l.reader) l.fn.reads l.reads
    × AsksWhileUnfinished l.fn.framer.held (account l.fn.reader) (account l.reader) (reads l.fn.reader) (reads l.reader)
    × Spends l.fn.reads l.reads (reads l.fn.reader) (reads l.reader)
    × ((reads l.fn.reader).failed ≤ (reads l.reader).failed)

abbrev pub decreases-loop-next : goal.decreases-loop-next
decreases-loop-next g l = l.reads
