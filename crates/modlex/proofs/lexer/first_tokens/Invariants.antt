use Rattle.std.proofs.Common.{length, ◌≤◌}
use Rattle.modlex.specs.Lexer.{views}
use Rattle.modlex.proofs.TokenLoop.{ReadsOn}
use Rattle.modlex.proofs.lexer.first_tokens.Given as goal

abbrev pub invariant-scan : goal.invariant-scan
invariant-scan l = ReadsOn l.line l.start l.text l.most (views l.out.items) l.at l.rest × (length l.out.items ≤ l.most)

abbrev pub decreases-scan : goal.decreases-scan
decreases-scan l = length l.rest
