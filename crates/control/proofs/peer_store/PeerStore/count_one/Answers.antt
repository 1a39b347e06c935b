use Rattle.std.proofs.Common.{Err}
use Rattle.control.specs.Notices.{IsOfFault, Lost}
use Rattle.control.proofs.NotedLemmas.{line_about, some_of_fault}
use Rattle.control.proofs.peer_store.PeerStore.count_one.Goals as goal

pub invariant_of-self-in-Err-clause-of_fault : goal.invariant_of-self-in-Err-clause-of_fault
invariant_of-self-in-Err-clause-of_fault g c =
    some_of_fault (Err c.in-Err.why) (line_about IsOfFault Lost (Err c.in-Err.why) tt tt tt)
