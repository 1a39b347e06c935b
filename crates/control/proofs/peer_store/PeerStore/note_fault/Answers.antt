use Rattle.control.specs.Notices.{IsOfFault, Met}
use Rattle.control.proofs.NotedLemmas.{line_about, some_of_fault}
use Rattle.control.proofs.peer_store.PeerStore.note_fault.Goals as goal

pub invariant_of-self-clause-of_fault : goal.invariant_of-self-clause-of_fault
invariant_of-self-clause-of_fault g c =
    some_of_fault c.met.result
    (line_about IsOfFault (Met c.args.errand.now c.in-Err.fault) c.met.result tt tt c.met.ensures)
