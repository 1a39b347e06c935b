use Rattle.std.proofs.Common.{refl, subst, sym}
use Rattle.socket.specs.Connections.{both}
use Rattle.control.specs.Counted.{AreOfPeer, CountsPublishes, HoldsBack}
use Rattle.control.specs.Noted.{AreOfRoom, AreUnheld}
use Rattle.control.proofs.NotedLemmas.{peer_written, room_written_unless_whole}
use Rattle.control.proofs.NoticeLemmas.{notices_more, written_then}
use Rattle.control.proofs.serving.Server.answer.Goals as goal

pub returns-clause-notes : goal.returns-clause-notes
returns-clause-notes g c = notices_more _ _ _ c.keep_room_unless_whole.ensures.notes
    (rw c.answer_on-after.ensures.errors at c.tell_of.ensures.notes)

pub returns-clause-tells : goal.returns-clause-tells
returns-clause-tells g c =
    rw (
      c.tell_of.ensures.room,
      c.tell_of.ensures.reserve,
      c.answer_on-after.ensures.room,
      c.answer_on-after.ensures.reserve,
    )
    (peer_written _ _ _ _ _ _ _ _ c.answer_on-after.new.watched.of_fault c.keep_room_unless_whole.ensures.tells
    (rw (c.answer_on-after.ensures.errors, c.answer_on-after.ensures.faults, c.keep_room_unless_whole.ensures.faults)
    at c.tell_of.ensures.tells))

pub returns-clause-counts : goal.returns-clause-counts
returns-clause-counts g c = rw (c.tell_of.ensures.room, c.answer_on-after.ensures.room) (record {
  noted = c.answer_on-after.new.watched.notice;
  counts = rw c.tell_of.ensures.store (rw c.tell_of.ensures.counts c.answer_on-after.ensures.counts);
  tells = written_then _ _ _ _ _ _ (λ xs ys own rest. (xs, ys, refl, own, rest))
      (room_written_unless_whole _ _ _ _ c.keep_room_unless_whole.ensures.tells)
      (rw (
        c.answer_on-after.ensures.errors,
        c.answer_on-after.ensures.faults,
        c.keep_room_unless_whole.ensures.faults,
      ) at c.tell_of.ensures.tells);
})

pub returns-clause-held : goal.returns-clause-held
returns-clause-held g c = rw c.tell_of.ensures.store (rw c.tell_of.ensures.held
    (rw c.answer_on-after.ensures.same_held c.answer_on-after.ensures.held))
