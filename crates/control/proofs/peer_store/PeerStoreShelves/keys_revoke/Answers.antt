use Rattle.interleave.proofs.NotedLemmas.{noted_does, all_revoked_entries}
use Rattle.control.proofs.CountedLemmas.{kept_entries}
use Rattle.control.proofs.peer_store.PeerStoreShelves.keys_revoke.Goals as goal

pub returns : goal.returns
returns g c = record {
  does = noted_does _ _ _ _ _ _ _ _
      (λ w fits said. kept_entries _ _ _ w _ _ _ (all_revoked_entries w _ _) said)
      (λ w fits said. said) c.keys_revoke.ensures.does;
}
