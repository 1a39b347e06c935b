use Rattle.std.proofs.Common.{◌<◌, ◌≤◌, length}
use Rattle.control.specs.Asking.{IsLastFrom}
use Rattle.control.proofs.client.last_line_at.Given as goal

-- the line begins here or before
abbrev pub invariant-loop-at : goal.invariant-loop-at
invariant-loop-at l = record {
  bound : l.at ≤ length l.text;
  within : 0 < length l.text → l.at < length l.text;
  last : IsLastFrom l.at l.text;
}

abbrev pub decreases-loop-at : goal.decreases-loop-at
decreases-loop-at l = l.at
