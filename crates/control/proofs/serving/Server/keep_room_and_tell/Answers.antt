use Rattle.std.proofs.Common.{◌≡◌, ◌≢◌, inl, refl, rules}
use Rattle.control.specs.Noted.{AreOfRoom}
use Rattle.control.proofs.NotedLemmas.{room_written}
use Rattle.control.proofs.NoticeLemmas.{none_written, notices_none}
use Rattle.control.proofs.FindLemmas.{looks_so}
use Rattle.control.proofs.serving.Server.keep_room_and_tell.Goals as goal

pub returns-then-eq-clause-notes : goal.returns-then-eq-clause-notes
returns-then-eq-clause-notes g c = notices_none _

pub returns-then-eq-clause-tells : goal.returns-then-eq-clause-tells
returns-then-eq-clause-tells g c =
    let same : c.keep_room-room.result ≡ c.args.self.now.room = search rules in
    looks_so _ _ _ _ refl (rw same at c.keep_room-room.ensures.noted)
    (none_written (AreOfRoom c.args.self.now.room c.args.self.now.room) _ (inl (refl, refl)))

pub returns-clause-tells : goal.returns-clause-tells
returns-clause-tells g c =
    let changed : c.keep_room-room.result ≢ c.args.self.now.room = search rules in
    looks_so _ _ _ _ refl c.keep_room-room.ensures.noted
    (room_written c.args.self.now.room c.keep_room-room.result c.reserved.result _ _ changed
    (rw c.is_whole.ensures at c.reserved.ensures) c.tell.ensures.tells)
