use Rattle.interleave.proofs.NotedLemmas.{noted_does, noted_entries, all_revoked_entries, all_revoked_shelves}
use Rattle.interleave.proofs.insert_tracker.InsertTrackerShelves.keys_revoke.Goals as goal

pub returns : goal.returns
returns g c = record {
  does = noted_does _ _ _ _ _ _ _ _
      (λ w fits noted. noted_entries _ _ _ _ w _ (all_revoked_entries w _ _) (all_revoked_shelves w _ _) noted) (λ w fits noted. noted)
      c.keys_revoke.ensures.does;
}
