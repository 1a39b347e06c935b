use Rattle.std.proofs.Common.{rules}
use Rattle.control.proofs.turn.ServerCopyOrdersMonitoredStore.catalog_to.Goals as goal

pub returns-clause-meanwhile : goal.returns-clause-meanwhile
returns-clause-meanwhile g c = λ printed.
    let turns = c.catalog-told.ensures.turns in
    record {
      watching = _;
      watched = search rules;
      here = search rules;
      last = turns.0;
      turns = turns.1;
      read = turns.2;
      begun = search rules;
    }
