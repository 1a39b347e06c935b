use Rattle.socket.specs.Connections.{both}
use Rattle.socket.specs.Serving.{AnswersEach}
use Rattle.socket.proofs.serve.serve_on.Given as goal

-- the connections so far
abbrev pub invariant-loop : goal.invariant-loop
invariant-loop g l =
    let s = g.S.Shelves in
    let p = g.P.Peer in
    let door = both g.L.Callers.waiting g.L.Callers.history in
    AnswersEach (both p.came p.reads) (both p.written p.writes) g.L.Callers.known
    (door l.fn.callers) (door l.callers) (s.shown l.fn.shelves) (s.shown l.shelves)
    l.counter
