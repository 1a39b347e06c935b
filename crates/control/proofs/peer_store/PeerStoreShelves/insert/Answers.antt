use Rattle.std.proofs.Common.{◌∙◌, sym}
use Rattle.control.specs.declared.store_call.StoreCall.TheVariants as errand
use Rattle.modver.specs.SemanticVersion.{version_text}
use Rattle.world.specs.World.{place}
use Rattle.control.proofs.CountedLemmas.{entry_later, entry_still}
use Rattle.control.proofs.NotedLemmas.{published_counts}
use Rattle.control.proofs.PeerLemmas.{said_does}
use Rattle.control.proofs.peer_store.PeerStoreShelves.insert.Goals as goal

pub returns-clause-counts : goal.returns-clause-counts
returns-clause-counts g c = rw c.if-self.false
    (published_counts (errand.PublishVersion c.args.path c.args.version) _ _ _ _ _ c.args.self.now.notice _ _
    c.note_fault.ensures.counts c.insert-told.result c.note_fault.ensures.noted c.count_publish.ensures.counts)

pub returns-clause-does : goal.returns-clause-does
returns-clause-does g c =
    let q = place c.args.shelf.now c.args.path.now (version_text c.args.version.now) in
    let asked = errand.PublishVersion c.args.path c.args.version in
    let counts = published_counts asked _ _ _ _ _ c.args.self.now.notice _ _ c.note_fault.ensures.counts
    c.insert-told.result c.note_fault.ensures.noted c.count_publish.ensures.counts in
    rw c.count_publish.ensures.same (rw c.note_fault.ensures.same (said_does _ _ _ _ _ _ _ _
    (λ x is w may. entry_later _ _ _ w q c.args.entry.now _ _ _ _ asked c.insert-told.result x is
    (sym c.args.self.now.hold ∙ c.if-self.false) may.free counts)
    (λ why is w may. entry_still _ _ _ w q c.args.entry.now _ _ _ _ asked c.insert-told.result why is counts)
    c.insert-told.ensures.does))
