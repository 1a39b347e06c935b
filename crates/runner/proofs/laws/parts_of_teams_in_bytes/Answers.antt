use Rattle.runner.proofs.Written.{teams_are_written_the_same, others_of_teams_are_written_not_found}
use Rattle.runner.proofs.laws.parts_of_teams_in_bytes.Goals as goal

pub returns : goal.returns
returns c = record { own = teams_are_written_the_same; others = others_of_teams_are_written_not_found }
