use Rattle.interleave.proofs.NotedLemmas.{noted_does, key_entries}
use Rattle.control.proofs.CountedLemmas.{kept_entries}
use Rattle.control.proofs.peer_store.PeerStoreShelves.key_add.Goals as goal

pub returns : goal.returns
returns g c = record {
  does = noted_does _ _ _ _ _ _ _ _
      (λ w fits said. kept_entries _ _ _ w _ _ _ (key_entries w _ _ _ _) said)
      (λ w fits said. said) c.key_add.ensures.does;
}
