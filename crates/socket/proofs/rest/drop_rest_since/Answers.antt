use Rattle.socket.specs.Pace.{time_for_rest}
use Rattle.socket.proofs.RestLemmas.{time_none, waits_none}
use Rattle.socket.proofs.rest.drop_rest_since.Goals as goal

pub returns-then-leaves_a_rest-clause-waits : goal.returns-then-leaves_a_rest-clause-waits
returns-then-leaves_a_rest-clause-waits g c = rw c.requires.waits at c.into_inner.ensures.waits

pub returns-in-Ok-clause-waits : goal.returns-in-Ok-clause-waits
returns-in-Ok-clause-waits g c = rw c.requires.waits at c.into_inner-in-Ok.ensures.waits

pub returns-in-Err-clause-in_time : goal.returns-in-Err-clause-in_time
returns-in-Err-clause-in_time g c = time_none time_for_rest _ _ c.in-Err.ensures.refused

pub returns-in-Err-clause-waits : goal.returns-in-Err-clause-waits
returns-in-Err-clause-waits g c = waits_none _ _ _ c.in-Err.ensures.refused
