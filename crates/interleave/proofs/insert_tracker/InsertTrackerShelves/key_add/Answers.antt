use Rattle.interleave.proofs.NotedLemmas.{noted_does, noted_entries, key_entries, key_shelves}
use Rattle.interleave.proofs.insert_tracker.InsertTrackerShelves.key_add.Goals as goal

pub returns : goal.returns
returns g c = record {
  does = noted_does _ _ _ _ _ _ _ _
      (λ w fits noted. noted_entries _ _ _ _ w _ (key_entries w _ _ _ _) (key_shelves w _ _ _ _) noted) (λ w fits noted. noted)
      c.key_add.ensures.does;
}
