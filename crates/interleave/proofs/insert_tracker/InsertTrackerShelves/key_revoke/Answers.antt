use Rattle.interleave.proofs.NotedLemmas.{noted_does, noted_entries, revoked_entries, revoked_shelves}
use Rattle.interleave.proofs.insert_tracker.InsertTrackerShelves.key_revoke.Goals as goal

pub returns : goal.returns
returns g c = record {
  does = noted_does _ _ _ _ _ _ _ _
      (λ w fits noted. noted_entries _ _ _ _ w _ (revoked_entries w _ _) (revoked_shelves w _ _) noted) (λ w fits noted. noted)
      c.key_revoke.ensures.does;
}
