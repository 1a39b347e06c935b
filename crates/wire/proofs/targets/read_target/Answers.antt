use Rattle.std.proofs.Common.{sym}
use Rattle.wire.proofs.TargetReadings.{of-no-text, of-text}
use Rattle.wire.proofs.targets.read_target.Goals as goal

pub returns-in-Ok : goal.returns-in-Ok
returns-in-Ok c =
    let text = c.in-Ok.ensures.cases in
    rw (of-text c.args.method.now c.args.target.now text.1) (rw text.0 at c.read_text.ensures)

pub returns-in-Err : goal.returns-in-Err
returns-in-Err c = sym (of-no-text c.args.method.now c.args.target.now c.in-Err.ensures.cases.0)
