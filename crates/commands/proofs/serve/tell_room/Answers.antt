use Rattle.std.proofs.Common.{◌≡◌, false, refl, rules, true}
use Rattle.control.proofs.NoticeLemmas.{none_written, notices_none}
use Rattle.control.specs.Reserve.{is_whole}
use Rattle.commands.specs.Serve.{AreOfRoom}
use Rattle.commands.proofs.Served.{room_lacks}
use Rattle.commands.proofs.serve.tell_room.Goals as goal

pub returns-then-is_whole-clause-notes : goal.returns-then-is_whole-clause-notes
returns-then-is_whole-clause-notes g c = notices_none _

pub returns-then-is_whole-clause-tells : goal.returns-then-is_whole-clause-tells
returns-then-is_whole-clause-tells g c =
    let whole : is_whole c.args.room ≡ true = search rules in rw whole (none_written (AreOfRoom true) _ refl)

pub returns-clause-tells : goal.returns-clause-tells
returns-clause-tells g c =
    let short : is_whole c.args.room ≡ false = search rules in
    rw short (room_lacks _ _ _ c.reserved.ensures c.tell.ensures.tells)
