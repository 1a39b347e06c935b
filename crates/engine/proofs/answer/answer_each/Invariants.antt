use Rattle.std.proofs.Common.{◌≤◌}
use Rattle.engine.specs.Causes.{Spends, most_reads}
use Rattle.engine.specs.Session.{SoFar, work}
use Rattle.engine.proofs.answer.answer_each.Given as goal

abbrev pub invariant-loop-session : goal.invariant-loop-session
invariant-loop-session g l =
    let s = g.S.Shelves in
    let reads = g.R.Hear.reads in
    let writes = g.W.Tell.writes in
    SoFar (s.shown l.fn.shelves) (s.shown l.shelves)
    (g.R.Hear.account l.fn.reader) (g.R.Hear.account l.reader)
    (g.W.Write.contents l.fn.writer) (g.W.Write.contents l.writer) l.session.framer
    × Spends most_reads l.session.reads (reads l.fn.reader) (reads l.reader)
    × ((reads l.fn.reader).failed ≤ (reads l.reader).failed)
    × ((writes l.fn.writer).failed ≤ (writes l.writer).failed)

abbrev pub decreases-loop-session : goal.decreases-loop-session
decreases-loop-session g l = work l.session.reads l.session.framer.held
