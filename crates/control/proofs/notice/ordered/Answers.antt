use Rattle.std.proofs.Common.{rules}
use Rattle.control.specs.Notices.{Ordered}
use Rattle.control.proofs.notice.ordered.Goals as goal

pub of-requires : goal.of-requires
of-requires c = ∣ (Ordered c.args.command.now c.args.told, search rules) ∣₁
