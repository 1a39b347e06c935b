use Rattle.std.proofs.Common.{arith}
use Rattle.std.proofs.lemmas.Grind.{common_steps}
use Rattle.modlex.proofs.Cuts.{cut_mark}
use Rattle.modlex.proofs.lexer.lexeme_at.Goals as goal

pub returns-in-Some-clause-boundary : goal.returns-in-Some-clause-boundary
returns-in-Some-clause-boundary c =
    cut_mark c.in_ok-first.field-0-0.now _ c.in_ok-first.rest.now (grind (arith, common_steps)) c.in-Some.ensures.ascii
