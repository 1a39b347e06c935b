use Rattle.std.proofs.Common.{take}
use Rattle.framing.specs.Values.{Counts, values_at}
use Rattle.framing.proofs.head.occurrences.Given as goal

abbrev pub invariant-loop-header : goal.invariant-loop-header
invariant-loop-header l = Counts l.bytes l.found (values_at l.wanted l.bytes (take l.header-index l.headers))
