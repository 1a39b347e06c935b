use Rattle.runner.proofs.Parts.{teams_are_told_the_same, others_of_teams_are_not_found}
use Rattle.runner.proofs.laws.parts_of_teams.Goals as goal

pub returns : goal.returns
returns c = record { own = teams_are_told_the_same; others = others_of_teams_are_not_found }
