use Rattle.machine.proofs.Profiles.{in_force, answers_alike}
use Rattle.machine.proofs.laws.profile_2_keeps_answers.Goals as goal

pub returns : goal.returns
returns c = record { in_force = in_force; answers = answers_alike }
