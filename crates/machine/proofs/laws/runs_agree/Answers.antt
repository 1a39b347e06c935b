use Rattle.machine.proofs.Isolated.{purged_runs_agree, faulty_runs_agree}
use Rattle.machine.proofs.laws.runs_agree.Goals as goal

pub returns : goal.returns
returns c = record { purged = purged_runs_agree; faulty = faulty_runs_agree }
