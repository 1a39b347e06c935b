use Rattle.std.proofs.Common.{rules}
use Rattle.control.specs.Notices.{Catalogued}
use Rattle.control.proofs.notice.catalogued.Goals as goal

pub of-requires : goal.of-requires
of-requires c = ∣ (Catalogued c.args.key.now c.args.told, search rules) ∣₁
