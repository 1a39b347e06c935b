use Rattle.socket.proofs.connection.answer_since.Goals as goal

pub returns-clause-heard : goal.returns-clause-heard
returns-clause-heard g c = rw (c.into_inner.ensures.same, c.into_inner-2.ensures.same)
    (rw (c.new-request.ensures, c.new-reply.ensures) at c.answer_one-status.ensures.heard)

pub returns-clause-asks : goal.returns-clause-asks
returns-clause-asks g c =
    rw c.into_inner.ensures.same (rw c.new-request.ensures at c.answer_one-status.ensures.asks)

pub returns-clause-cause : goal.returns-clause-cause
returns-clause-cause g c = rw (c.into_inner.ensures.same, c.into_inner-2.ensures.same)
    (rw (c.new-request.ensures, c.new-reply.ensures) at c.answer_one-status.ensures.cause)

pub returns-clause-flushed : goal.returns-clause-flushed
returns-clause-flushed g c = rw c.into_inner-2.ensures.same c.answer_one-status.ensures.flushed

pub returns-clause-waits : goal.returns-clause-waits
returns-clause-waits g c = rw c.requires.may_wait at c.into_inner.ensures.waits
