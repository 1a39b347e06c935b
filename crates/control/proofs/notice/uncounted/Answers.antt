use Rattle.std.proofs.Common.{rules}
use Rattle.control.specs.Notices.{Uncounted}
use Rattle.control.proofs.notice.uncounted.Goals as goal

pub of-requires : goal.of-requires
of-requires c = ∣ (Uncounted c.args.file.now c.args.fault, search rules) ∣₁
