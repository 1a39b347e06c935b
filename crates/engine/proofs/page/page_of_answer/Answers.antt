use Rattle.std.proofs.Common.{refl}
use Rattle.engine.specs.Exchange.{Unserved, Met, Served}
use Rattle.engine.proofs.page.page_of_answer.Goals as goal

pub returns-in_default : goal.returns-in_default
returns-in_default c = rw c.in_default.is (Met c.in_default.field-0, refl, refl)

pub returns-in-Ok-page_of : goal.returns-in-Ok-page_of
returns-in-Ok-page_of c = rw c.in-Ok.is (Served c.in-Ok.reply, refl, c.in-Ok-page_of.ensures.page)

pub returns-in-Err : goal.returns-in-Err
returns-in-Err c = rw c.in-Ok.is (Unserved, c.in-Err.ensures.memory, refl)
