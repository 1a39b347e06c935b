use Rattle.std.proofs.Common.{sym}
use Rattle.modver.proofs.DotParts.{may-more}
use Rattle.modver.proofs.pseudo.is_base.Goals as goal

pub returns-in-Some : goal.returns-in-Some
returns-in-Some c minor =
    rw (c.eq-in-Some.ensures, c.as_slice-in-Some.ensures)
    (sym (may-more minor c.args.patch c.args.front.now c.in-Some.field-0-0.now c.in-Some.before.now
    c.in-Some.ensures))
