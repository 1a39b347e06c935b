use Rattle.control.proofs.telling.tell.Goals as goal

pub returns-clause-tells : goal.returns-clause-tells
returns-clause-tells g c = rw c.noted_line.ensures.value at c.write.ensures.tells
