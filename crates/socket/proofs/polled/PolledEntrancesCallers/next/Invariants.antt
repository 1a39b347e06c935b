use Rattle.socket.proofs.ListeningLemmas.{Idles}
use Rattle.socket.proofs.polled.PolledEntrancesCallers.next.Given as goal

-- the polls so far named nobody who could be taken
abbrev pub invariant-loop : goal.invariant-loop
invariant-loop g l =
    let calls = g.L.Listeners.calls in Idles (calls l.fn.self.listeners) (calls l.self.listeners) l.counter
