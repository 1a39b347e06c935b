use Rattle.interleave.proofs.NotedLemmas.{noted_does, noted_entries, group_entries, group_shelves}
use Rattle.interleave.proofs.insert_tracker.InsertTrackerShelves.group_add.Goals as goal

pub returns : goal.returns
returns g c = record {
  does = noted_does _ _ _ _ _ _ _ _
      (λ w fits noted. noted_entries _ _ _ _ w _ (group_entries w c.args.name.now _)
      (group_shelves w c.args.name.now) noted) (λ w fits noted. noted)
      c.group_add.ensures.does;
}
