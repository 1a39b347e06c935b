use Rattle.std.proofs.Common.{length, arith}
use Rattle.peek.proofs.EditLemmas.{holds_front, same_part}
use Rattle.peek.proofs.PeekDisk.read_checked.Goals as goal

pub returns-in-Ok-clause-read : goal.returns-in-Ok-clause-read
returns-in-Ok-clause-read g c clean =
    let low = c.is_below.ensures c.if-not-is_below.false in
    holds_front _ c.args.at _ _ c.read_checked.new.buf (c.args.self.now.fronts (c.read_checked.ensures.clean clean))
    (omega (arith, low, c.read_checked.auto.buf))
    (c.in-Ok.ensures.read clean)

pub returns-in-Err-clause-detects : goal.returns-in-Err-clause-detects
returns-in-Err-clause-detects g c clean within =
    let it = c.args.self.now.fronts clean in
    let low = c.is_below.ensures c.if-not-is_below.false in
    rw (same_part _ c.args.at (length c.args.buf.now) _ _ it low)
    (c.read_checked.ensures.detects clean (omega (arith, low, it.in_file)))
