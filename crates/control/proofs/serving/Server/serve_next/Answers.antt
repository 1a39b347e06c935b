use Rattle.std.proofs.Common.{refl, true}
use Rattle.control.proofs.NoticeLemmas.{notices_none}
use Rattle.control.proofs.ServingLemmas.{serves_peer, serves_told, serves_untaken}
use Rattle.control.proofs.serving.Server.serve_next.Goals as goal

pub returns-in-Ok-Operator-clause-serves : goal.returns-in-Ok-Operator-clause-serves
returns-in-Ok-Operator-clause-serves g c = λ door takes fresh.
    serves_told _ _ _ _ _ _ _ _ door _ _ _ _ _ _ _ _ _ _ c.in-Ok-Operator.operator _
    (rw c.in-Ok-Operator.field-0-is at (rw c.in-Ok-Operator.is at takes))
    (rw c.in-Ok-Operator.field-0-is at (rw c.in-Ok-Operator.is at fresh)) c.requires.0
    c.obey_meanwhile.ensures.obeys

pub returns-in-Ok-Peer-clause-serves : goal.returns-in-Ok-Peer-clause-serves
returns-in-Ok-Peer-clause-serves g c = λ door takes fresh.
    serves_peer _ _ _ _ _ _ _ _ true door _ _ _ _ _ _ _ _ _ _ c.in-Ok-Peer.peer
    (rw c.in-Ok-Peer.field-0-is at (rw c.in-Ok-Peer.is at takes))
    (rw c.in-Ok-Peer.field-0-is at (rw c.in-Ok-Peer.is at fresh)) c.requires.0 c.answer.ensures.serves
    c.answer.ensures.tells

pub returns-in-Err-clause-serves : goal.returns-in-Err-clause-serves
returns-in-Err-clause-serves g c = λ door takes fresh.
    serves_untaken _ _ _ _ _ _ _ _ true door _ _ _ _ _ _ _ _ _ (rw c.in-Err.is at takes) c.requires.0
    c.count_untaken.ensures.tally c.count_untaken.ensures.left c.count_untaken.ensures.taken
    c.count_untaken.ensures.stops refl refl refl

pub returns-in-Err-clause-notes : goal.returns-in-Err-clause-notes
returns-in-Err-clause-notes g c = notices_none _
