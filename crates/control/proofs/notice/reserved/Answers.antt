use Rattle.std.proofs.Common.{rules}
use Rattle.control.specs.Notices.{Reserved, room_told}
use Rattle.control.proofs.notice.reserved.Goals as goal

pub of-requires : goal.of-requires
of-requires c = ∣ (Reserved (room_told c.args.has_room), search rules) ∣₁
