use Rattle.std.proofs.Common.{rules}
use Rattle.control.specs.Notices.{Met}
use Rattle.control.proofs.notice.met.Goals as goal

pub of-requires : goal.of-requires
of-requires c = ∣ (Met c.args.errand.now c.args.fault, search rules) ∣₁
