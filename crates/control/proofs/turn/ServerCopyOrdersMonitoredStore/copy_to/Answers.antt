use Rattle.std.proofs.Common.{rules}
use Rattle.control.proofs.turn.ServerCopyOrdersMonitoredStore.copy_to.Goals as goal

pub returns-in-Err-clause-meanwhile : goal.returns-in-Err-clause-meanwhile
returns-in-Err-clause-meanwhile g c =
    let turns = c.copy-told.ensures.turns in
    record {
      watching = _;
      watched = search rules;
      here = search rules;
      last = turns.0;
      turns = rw c.new-begun.ensures.noted at turns.1;
      read = turns.2;
      begun = search rules;
    }

pub returns-clause-meanwhile : goal.returns-clause-meanwhile
returns-clause-meanwhile g c =
    let turns = c.copy-told.ensures.turns in
    record {
      watching = _;
      watched = search rules;
      here = search rules;
      last = turns.0;
      turns = rw c.new-begun.ensures.noted at turns.1;
      read = rw c.note_time.ensures.same turns.2;
      begun = search rules;
    }
