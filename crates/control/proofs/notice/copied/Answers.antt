use Rattle.std.proofs.Common.{rules}
use Rattle.control.specs.Notices.{Copied}
use Rattle.control.proofs.notice.copied.Goals as goal

pub of-requires : goal.of-requires
of-requires c = ∣ (Copied c.args.path.now c.args.told, search rules) ∣₁
