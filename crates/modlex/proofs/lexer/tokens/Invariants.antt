use Rattle.std.proofs.Common.{length}
use Rattle.modlex.specs.Lexer.{views}
use Rattle.modlex.proofs.TokenLoop.{ReadsLines}
use Rattle.modlex.proofs.lexer.tokens.Given as goal

abbrev pub invariant-lines : goal.invariant-lines
invariant-lines l = ReadsLines l.text (views l.out.items) l.number l.start l.rest

abbrev pub decreases-lines : goal.decreases-lines
decreases-lines l = length l.rest
