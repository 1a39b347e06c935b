use Rattle.control.proofs.operator.tell_since.Goals as goal

pub returns-clause-tells : goal.returns-clause-tells
returns-clause-tells g c = rw c.into_inner.ensures.same (rw c.new-outcome.ensures at c.tell-told.ensures.tells)

pub returns-clause-fails : goal.returns-clause-fails
returns-clause-fails g c = rw c.into_inner.ensures.same (rw c.new-outcome.ensures at c.tell-told.ensures.fails)

pub returns-clause-flushed : goal.returns-clause-flushed
returns-clause-flushed g c = rw c.into_inner.ensures.same c.tell-told.ensures.flushed
