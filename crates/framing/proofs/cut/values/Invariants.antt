use Rattle.std.proofs.Common.{◌≡◌, take}
use Rattle.framing.specs.Framing.{texts}
use Rattle.framing.specs.Values.{values_at}
use Rattle.framing.proofs.cut.values.Given as goal

abbrev pub invariant-loop-header : goal.invariant-loop-header
invariant-loop-header l = texts l.found.items ≡ values_at l.wanted l.bytes (take l.header-index l.headers)
