use Rattle.std.proofs.Common.{◌≡◌, true}
use Rattle.socket.specs.Connections.{both}
use Rattle.interleave.specs.Noted.{IsNoted, with_said}
use Rattle.control.specs.Notices.{WritesNotices}
use Rattle.control.specs.Reserve.{lent}
use Rattle.control.specs.Serving.{Serves}
use Rattle.control.proofs.serving.Server.serve_waiting.Given as goal

-- the callers so far were served
abbrev pub invariant-loop : goal.invariant-loop
invariant-loop g l =
    let o = g.O.Operator in
    let p = g.P.Peer in
    let door = both g.L.Callers.waiting g.L.Callers.history in
    let errors = both g.E.Write.contents g.E.Tell.writes in
    record {
      all : Serves (both o.came o.reads) (both o.written o.writes) (both p.came p.reads) (both p.written p.writes)
          g.L.Callers.known
          (λ n. with_said (g.S.Shelves.shown n.inner.now) (IsNoted n.lost g.M.Moment.was g.M.Moment.before n.news))
          (λ old new making. g.K.Copies.made old.inner.now new.inner.now making)
          (λ old new n. g.K.Copies.counted old.inner.now new.inner.now n) true
          (door l.fn.self.callers.now) (door l.self.callers.now) l.fn.self.progress l.self.progress
          (errors l.fn.self.errors.now, l.fn.self.faults) (errors l.self.errors.now, l.self.faults)
          (lent g.V.KeepsRoom.deeds l.fn.self.reserve l.fn.self.room)
          (lent g.V.KeepsRoom.deeds l.self.reserve l.self.room)
          l.fn.watched.inner.now l.watched.inner.now;
      same : l.self.callers.ghost_name ≡ l.fn.self.callers.ghost_name;
      same_errors : l.self.errors.ghost_name ≡ l.fn.self.errors.ghost_name;
      notes : WritesNotices (g.E.Write.contents l.fn.self.errors.now) (g.E.Write.contents l.self.errors.now);
    }
