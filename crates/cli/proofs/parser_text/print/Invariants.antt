use Rattle.std.proofs.Common.{◌≡◌, length}
use Rattle.cli.proofs.parser_text.print.Given as goal

-- no call of the output failed
abbrev pub invariant-loop-rest : goal.invariant-loop-rest
invariant-loop-rest g l = (g.O.Tell.writes l.output).failed ≡ (g.O.Tell.writes l.fn.output).failed

-- each call takes some of what is left
abbrev pub decreases-loop-rest : goal.decreases-loop-rest
decreases-loop-rest g l = length l.rest
