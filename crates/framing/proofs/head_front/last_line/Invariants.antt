use Rattle.std.proofs.Common.{◌≤◌, length}
use Rattle.framing.proofs.head_front.last_line.Given as goal

abbrev pub invariant-loop-at : goal.invariant-loop-at
invariant-loop-at l = l.at ≤ length l.bytes

abbrev pub decreases-loop-at : goal.decreases-loop-at
decreases-loop-at l = l.at
