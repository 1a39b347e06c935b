use Rattle.modpath.proofs.OffenceLaw.{fault_is_leftmost}
use Rattle.modpath.proofs.laws.escape_fault_is_leftmost.Goals as goal

pub returns : goal.returns
returns c = fault_is_leftmost
