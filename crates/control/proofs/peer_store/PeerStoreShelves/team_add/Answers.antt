use Rattle.std.specs.Prelude.{option_copied}
use Rattle.interleave.proofs.NotedLemmas.{noted_does, team_entries}
use Rattle.control.proofs.CountedLemmas.{kept_entries}
use Rattle.control.proofs.peer_store.PeerStoreShelves.team_add.Goals as goal

pub returns : goal.returns
returns g c = record {
  does = noted_does _ _ _ _ _ _ _ _
      (λ w fits said. kept_entries _ _ _ w _ _ _ (team_entries w c.args.name.now (option_copied c.args.group) _) said)
      (λ w fits said. said) c.team_add.ensures.does;
}
