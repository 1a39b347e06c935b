use Rattle.std.proofs.Common.{◌≤◌, ◌≡◌, false}
use Rattle.socket.specs.Connections.{both}
use Rattle.control.specs.Notices.{WritesNotices}
use Rattle.control.specs.Reserve.{lent}
use Rattle.control.specs.Serving.{Serves}
use Rattle.control.proofs.serving.Server.serve_each.Given as goal

-- the callers so far were served, and are as many as the rounds at least
abbrev pub invariant-loop : goal.invariant-loop
invariant-loop g l =
    let s = g.S.Shelves in
    let o = g.O.Operator in
    let p = g.P.Peer in
    let door = both g.L.Callers.waiting g.L.Callers.history in
    let errors = both g.E.Write.contents g.E.Tell.writes in
    record {
      some : l.counter ≤ l.self.progress.taken;
      all : Serves (both o.came o.reads) (both o.written o.writes) (both p.came p.reads) (both p.written p.writes)
          g.L.Callers.known s.shown g.K.Copies.made g.K.Copies.counted false
          (door l.fn.self.callers.now) (door l.self.callers.now) l.fn.self.progress l.self.progress
          (errors l.fn.self.errors.now, l.fn.self.faults) (errors l.self.errors.now, l.self.faults)
          (lent g.V.KeepsRoom.deeds l.fn.self.reserve l.fn.self.room)
          (lent g.V.KeepsRoom.deeds l.self.reserve l.self.room)
          l.fn.watched.inner.now l.watched.inner.now;
      same : l.self.callers.ghost_name ≡ l.fn.self.callers.ghost_name;
      same_errors : l.self.errors.ghost_name ≡ l.fn.self.errors.ghost_name;
      notes : WritesNotices (g.E.Write.contents l.fn.self.errors.now) (g.E.Write.contents l.self.errors.now);
    }
