use Rattle.std.proofs.Common.{[], Some, inl, refl}
use Rattle.std.proofs.KnownBytes.{Appends-nil}
use Rattle.control.proofs.HearingLemmas.{hears_no_memory, obeys_told}
use Rattle.control.proofs.PaceLemmas.{answered_in_time, unwritten_in_time}
use Rattle.control.proofs.TaskLemmas.{tasks_none}
use Rattle.control.proofs.operator.obey_since.Goals as goal
use Rattle.control.proofs.operator.obey_since.Goals.{in-Ok, in-Err-Io, in-Err-Memory}

pub returns-clause-obeys : goal.returns-clause-obeys
returns-clause-obeys g c = elim c.match-got.branch [
  | in-Ok w ↦ rw (w.writer-is, w.shelves-is, w.copies-is, c.into_inner-reader.ensures.same)
      ((rw w.deref.ensures.value at w.answer_since.ensures.obeys) _ _ (rw c.new-line.ensures at w.in-Ok.ensures.reads))
  | in-Err-Io w ↦ rw (w.writer-is, w.shelves-is, w.copies-is)
      ((g.met.K.CopyOrders.is_same _, refl), tasks_none (g.S.Shelves.shown c.args.shelves.now), refl, refl)
  | in-Err-Memory w ↦
      let before = Some c.args.operator.writer.noted.bytes in
      let after = Some w.tell_since-writer.result.0.noted.bytes in
      let said = w.tell_since-writer.result.1 in
      rw (w.writer-is, w.shelves-is, w.copies-is)
      (obeys_told _ _ _ _ _ _ _ _ before before after [] (Appends-nil before) _ said _
      (hears_no_memory _ _ _ _ _ _ _ _ said (g.met.K.CopyOrders.is_same _, refl) (tasks_none _)) w.tell_since-writer.ensures.same
      w.tell_since-writer.ensures.tells)
]

pub returns-clause-asks : goal.returns-clause-asks
returns-clause-asks g c =
    rw c.into_inner-reader.ensures.same (rw c.new-line.ensures at c.read_line-got.ensures.asks)

pub returns-clause-writes_in_time : goal.returns-clause-writes_in_time
returns-clause-writes_in_time g c = elim c.match-got.branch [
  | in-Ok w ↦ rw (w.writer-is, c.into_inner-reader.ensures.same)
      (answered_in_time _ _ _ _ _ (rw c.new-line.ensures at w.in-Ok.ensures.reads)
      (rw w.deref.ensures.value at w.answer_since.ensures.in_time))
  | in-Err-Io w ↦ rw w.writer-is (unwritten_in_time _ _ _ _ c.requires.writes)
  | in-Err-Memory w ↦ rw w.writer-is (inl w.tell_since-writer.ensures.in_time)
]

pub returns-clause-waits : goal.returns-clause-waits
returns-clause-waits g c = rw c.requires.may_wait at c.into_inner-reader.ensures.waits
