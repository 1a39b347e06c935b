use Rattle.machine.proofs.Changes.{runs_are_cut, runs_are_joined}
use Rattle.machine.proofs.laws.runs.Goals as goal

pub returns : goal.returns
returns c = record { cut = runs_are_cut; joined = runs_are_joined }
