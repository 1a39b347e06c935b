use Rattle.std.proofs.Common.{subst}
use Rattle.socket.specs.Connections.{both}
use Rattle.socket.specs.Listening.{IsGone}
use Rattle.socket.specs.Rest.{IsEndedAfter}
use Rattle.socket.specs.declared.callers.Caller.TheVariants.{Peer}
use Rattle.socket.proofs.ListeningLemmas.{ends_peer, hangs_up}
use Rattle.socket.proofs.polled.PolledEntrancesCallers.end_peer.Goals as goal

pub returns-clause-ends : goal.returns-clause-ends
returns-clause-ends g c =
    let p = g.P.Peer in
    let calls = g.L.Listeners.calls in
    let is_ended = IsEndedAfter (both p.came p.reads) p.written p.read_calls p.write_calls in
    let gone = c.end_after_reply-gone.result in
    ends_peer is_ended (calls c.args.self.now.listeners) (calls c.leave-left.new.self) (calls c.hang_up.new.self)
    c.args.peer gone c.args.status
    (subst (λ left. IsGone is_ended left c.args.status gone) c.leave-left.ensures.same c.end_after_reply-gone.ensures)
    c.leave-left.ensures.noted c.hang_up.ensures

pub returns-clause-closes : goal.returns-clause-closes
returns-clause-closes g c =
    let p = g.P.Peer in
    let calls = g.L.Listeners.calls in
    let is_ended = IsEndedAfter (both p.came p.reads) p.written p.read_calls p.write_calls in
    let gone = c.end_after_reply-gone.result in
    hangs_up is_ended (calls c.args.self.now.listeners) (calls c.leave-left.new.self) (calls c.hang_up.new.self)
    (Peer c.args.peer) gone c.args.status
    (subst (λ left. IsGone is_ended left c.args.status gone) c.leave-left.ensures.same c.end_after_reply-gone.ensures)
    c.leave-left.ensures.noted c.hang_up.ensures
