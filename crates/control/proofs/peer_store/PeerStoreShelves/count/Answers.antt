use Rattle.control.specs.declared.store_call.StoreCall.TheVariants as errand
use Rattle.control.proofs.CountedLemmas.{kept_same}
use Rattle.control.proofs.PeerLemmas.{said_reads}
use Rattle.control.proofs.peer_store.PeerStoreShelves.count.Goals as goal

pub returns-clause-reads : goal.returns-clause-reads
returns-clause-reads g c = rw c.note_fault.ensures.same (said_reads _ _ _ _ _ _
    (λ w. kept_same _ _ _ w (errand.Publish c.args.path) _ _ _ _ _ c.note_fault.ensures.counts
    c.note_fault.ensures.noted) c.count-told.ensures.reads)
