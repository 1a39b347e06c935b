use Rattle.sqlite.specs.Held.{state}
use Rattle.keyring.specs.Named.{shelves_in}
use Rattle.store.proofs.StoreLemmas.{reads_counted}
use Rattle.store.proofs.named.SqlShelvesKeyring.shelves.Goals as goal

pub returns : goal.returns
returns g c =
    record {
      reads = reads_counted (state g.S.Store c.args.self.now.conn) (state g.S.Store c.find_shelf_names-names.new.conn)
          c.args.self.now.kept c.args.self.now.failures _
          c.find_shelf_names-names.result c.counted.result shelves_in c.find_shelf_names-names.ensures.spares
          c.counted.ensures c.find_shelf_names-names.ensures.answer;
    }
