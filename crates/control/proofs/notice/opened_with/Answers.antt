use Rattle.std.proofs.Common.{rules}
use Rattle.control.specs.Notices.{Opened}
use Rattle.control.proofs.notice.opened_with.Goals as goal

pub of-requires : goal.of-requires
of-requires c = ∣ (Opened c.args.file.now c.args.versions, search rules) ∣₁
