use Rattle.std.proofs.Common.{◌≡◌}
use Rattle.cli.proofs.parser_text.print_text.Given as goal

-- no call of the output failed
abbrev pub invariant-loop : goal.invariant-loop
invariant-loop g l = (g.O.Tell.writes l.output).failed ≡ (g.O.Tell.writes l.fn.output).failed
