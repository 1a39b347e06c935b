use Rattle.std.proofs.Common.{refl, None}
use Rattle.socket.specs.declared.callers.Caller.TheVariants.{Operator}
use Rattle.socket.proofs.ListeningLemmas.{left_then}
use Rattle.socket.proofs.memory.MemoryEntrancesCallers.end_operator.Goals as goal

pub returns : goal.returns
returns g c = record {
  waits = refl;
  noted = left_then _ _ _ (Operator c.args.operator) (Operator c.args.operator) None c.note_left-left.ensures.noted
      (rw c.note_left-left.ensures.same at c.note.ensures);
}
