use Rattle.std.proofs.Common.{arith}
use Rattle.std.proofs.lemmas.Grind.{common_steps}
use Rattle.tables.proofs.schema.is_either.Goals as goal

pub returns-then-is_equation : goal.returns-then-is_equation
returns-then-is_equation c depth =
    grind (arith, common_steps, c.is_equation.ensures depth, c.is_equation-then-is_equation.ensures depth)

pub returns-else-is_equation : goal.returns-else-is_equation
returns-else-is_equation c depth = grind (arith, common_steps, c.is_equation.ensures depth)
