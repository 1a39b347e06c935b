use Rattle.std.proofs.Common.{refl}
use Rattle.socket.specs.declared.callers.Caller.TheVariants.{Peer}
use Rattle.socket.proofs.ListeningLemmas.{left_then}
use Rattle.socket.proofs.memory.MemoryEntrancesCallers.end_peer.Goals as goal

pub returns : goal.returns
returns g c = (
  c.args.peer,
  refl,
  record {
    waits = refl;
    noted = left_then _ _ _ (Peer c.args.peer) (Peer c.args.peer) c.args.status c.note_left-left.ensures.noted
        (rw c.note_left-left.ensures.same at c.note.ensures);
  },
)
