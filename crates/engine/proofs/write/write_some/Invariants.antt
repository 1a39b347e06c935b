use Rattle.std.proofs.Common.{◌+◌, ◌≤◌}
use Rattle.std.specs.Io.KnownBytes.{Keeps}
use Rattle.engine.proofs.write.write_some.Given as goal

-- no write took a byte, and each failed
abbrev pub invariant-loop : goal.invariant-loop
invariant-loop g l =
    let writes = g.W.Tell.writes in
    Keeps (g.W.Write.contents l.fn.writer) (g.W.Write.contents l.writer)
    × ((writes l.fn.writer).failed + l.counter ≤ (writes l.writer).failed)
