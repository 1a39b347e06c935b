use Rattle.std.proofs.Common.{rules}
use Rattle.control.specs.Notices.{Answered}
use Rattle.control.proofs.notice.answered.Goals as goal

pub of-requires : goal.of-requires
of-requires c = ∣ (Answered c.args.told, search rules) ∣₁
