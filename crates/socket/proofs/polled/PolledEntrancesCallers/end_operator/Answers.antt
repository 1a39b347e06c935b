use Rattle.std.proofs.Common.{None, refl}
use Rattle.socket.specs.Connections.{both}
use Rattle.socket.specs.Rest.{IsEndedAfter}
use Rattle.socket.specs.declared.callers.Caller.TheVariants.{Operator}
use Rattle.socket.proofs.ListeningLemmas.{ends_operator, hangs_up}
use Rattle.socket.proofs.polled.PolledEntrancesCallers.end_operator.Goals as goal

pub returns-clause-ends : goal.returns-clause-ends
returns-clause-ends g c =
    let p = g.P.Peer in
    let calls = g.L.Listeners.calls in
    ends_operator (IsEndedAfter (both p.came p.reads) p.written p.read_calls p.write_calls)
    (calls c.args.self.now.listeners) (calls c.leave-left.new.self) (calls c.hang_up.new.self) c.args.operator c.leave-left.ensures.noted
    (rw c.leave-left.ensures.same at c.hang_up.ensures)

pub returns-clause-closes : goal.returns-clause-closes
returns-clause-closes g c =
    let p = g.P.Peer in
    let calls = g.L.Listeners.calls in
    hangs_up (IsEndedAfter (both p.came p.reads) p.written p.read_calls p.write_calls) (calls c.args.self.now.listeners)
    (calls c.leave-left.new.self) (calls c.hang_up.new.self) (Operator c.args.operator) (Operator c.args.operator) None
    refl c.leave-left.ensures.noted (rw c.leave-left.ensures.same at c.hang_up.ensures)
