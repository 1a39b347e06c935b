use Rattle.interleave.proofs.NotedLemmas.{noted_does, noted_insert, noted_fault}
use Rattle.interleave.proofs.insert_tracker.InsertTrackerShelves.insert.Goals as goal

pub returns : goal.returns
returns g c = record {
  does = noted_does _ _ _ _ _ _ _ _
      (λ w room noted. noted_insert _ _ _ _ _ _ _ _ w c.note.ensures.notes room noted)
      (λ w room noted. noted_fault _ _ _ _ _ _ _ _ w c.note.ensures.notes room noted)
      (rw c.note.ensures.same at c.insert.ensures.does);
}
