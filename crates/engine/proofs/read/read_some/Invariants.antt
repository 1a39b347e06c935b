use Rattle.std.proofs.Common.{[], ◌+◌, ◌≤◌}
use Rattle.histories.specs.Account.{Gives}
use Rattle.engine.specs.Causes.{GivesNone}
use Rattle.engine.proofs.read.read_some.Given as goal

-- no read gave a byte, and each failed
abbrev pub invariant-loop : goal.invariant-loop
invariant-loop g l =
    let reads = g.R.Hear.reads in
    Gives (g.R.Hear.account l.fn.reader) (g.R.Hear.account l.reader) []
    × GivesNone (reads l.fn.reader) (reads l.reader)
    × ((reads l.fn.reader).begun ≤ (reads l.reader).begun)
    × ((reads l.fn.reader).failed + l.counter ≤ (reads l.reader).failed)
