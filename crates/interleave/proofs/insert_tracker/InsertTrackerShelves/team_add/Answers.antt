use Rattle.std.specs.Prelude.{option_copied}
use Rattle.interleave.proofs.NotedLemmas.{noted_does, noted_entries, team_entries, team_shelves}
use Rattle.interleave.proofs.insert_tracker.InsertTrackerShelves.team_add.Goals as goal

pub returns : goal.returns
returns g c = record {
  does = noted_does _ _ _ _ _ _ _ _
      (λ w fits noted.
      noted_entries _ _ _ _ w _ (team_entries w c.args.name.now (option_copied c.args.group) _)
      (team_shelves w c.args.name.now (option_copied c.args.group)) noted)
      (λ w fits noted. noted)
      c.team_add.ensures.does;
}
