use Rattle.std.proofs.Common.{rules}
use Rattle.control.specs.Notices.{Ended}
use Rattle.control.proofs.notice.ended.Goals as goal

pub of-requires : goal.of-requires
of-requires c = ∣ (Ended c.args.file.now, search rules) ∣₁
