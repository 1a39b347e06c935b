use Rattle.sqlite.specs.Held.{state}
use Rattle.keyring.specs.Named.{keys_in}
use Rattle.store.proofs.StoreLemmas.{reads_counted}
use Rattle.store.proofs.named.SqlShelvesKeyring.keys.Goals as goal

pub returns : goal.returns
returns g c =
    record {
      reads = reads_counted (state g.S.Store c.args.self.now.conn) (state g.S.Store c.find_keys-keys.new.conn)
          c.args.self.now.kept c.args.self.now.failures _
          c.find_keys-keys.result c.counted.result keys_in c.find_keys-keys.ensures.spares c.counted.ensures
          c.find_keys-keys.ensures.answer;
    }
