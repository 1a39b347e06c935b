use Rattle.control.proofs.FaultLemmas.{remembers}
use Rattle.control.proofs.faults.RecentFaults.remember.Goals as goal

pub returns-in-Ok : goal.returns-in-Ok
returns-in-Ok c = rw c.in-Ok.ensures at (remembers c.push.result _ _ _ c.push.ensures.items)
