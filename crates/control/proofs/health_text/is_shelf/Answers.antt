use Rattle.std.proofs.Common.{sym}
use Rattle.control.proofs.HealthAscii.{no_shelf}
use Rattle.control.proofs.health_text.is_shelf.Goals as goal

pub returns-in-Err : goal.returns-in-Err
returns-in-Err c = sym (no_shelf c.args.name.now c.in-Err.ensures.cases.0)
