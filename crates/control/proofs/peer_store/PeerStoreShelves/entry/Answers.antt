use Rattle.control.specs.declared.store_call.StoreCall.TheVariants as errand
use Rattle.control.proofs.CountedLemmas.{kept_found}
use Rattle.control.proofs.NotedLemmas.{found_counts}
use Rattle.control.proofs.PeerLemmas.{said_reads}
use Rattle.control.proofs.peer_store.PeerStoreShelves.entry.Goals as goal

pub returns-clause-counts : goal.returns-clause-counts
returns-clause-counts g c =
    found_counts (errand.FetchVersion c.args.path c.args.version) _ _ _ _ _ c.args.self.now.notice _ _
    c.note_fault.ensures.counts c.entry-told.result c.note_fault.ensures.noted c.count_fetch.ensures.counts

pub returns-clause-reads : goal.returns-clause-reads
returns-clause-reads g c =
    let asked = errand.FetchVersion c.args.path c.args.version in
    rw c.count_fetch.ensures.same (rw c.note_fault.ensures.same (said_reads _ _ _ _ _ _
    (λ w. kept_found _ _ _ w asked c.entry-told.result c.args.shelf.now _ _ _ _ (returns-clause-counts g c))
    c.entry-told.ensures.reads))
