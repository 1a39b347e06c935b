use Rattle.socket.specs.Connections.{both}
use Rattle.socket.proofs.OneLemmas.{answered_one, next_peer, next_untaken}
use Rattle.socket.proofs.serve.serve_next.Goals as goal

pub returns-in-Ok : goal.returns-in-Ok
returns-in-Ok g c =
    let p = g.P.Peer in
    next_peer (both p.came p.reads) (both p.written p.writes) _ _ _ _ _ _ _ _ _ c.in-Ok.ensures.fresh
    c.in-Ok.ensures.takes
    (answered_one (both p.came p.reads) (both p.written p.writes) _ _ _ _ _ c.answer-after.ensures.serves
    c.answer-after.ensures.cause c.answer-after.ensures.flushed) (rw c.written_status.ensures at c.end_peer.ensures)

pub returns-in-Err : goal.returns-in-Err
returns-in-Err g c = next_untaken _ _ _ _ _ _ c.in-Err.ensures.takes
