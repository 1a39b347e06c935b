use Rattle.sqlite.specs.Held.{state}
use Rattle.std.specs.FinMap as map
use Rattle.statements.proofs.ChangeLemmas.{weaker}
use Rattle.store.proofs.StoreLemmas.{reads_counted}
use Rattle.store.proofs.named.SqlShelvesKeyring.parent.Goals as goal

pub returns : goal.returns
returns g c =
    record {
      reads = reads_counted (state g.S.Store c.args.self.now.conn) (state g.S.Store c.find_shelf-found.new.conn)
          c.args.self.now.kept c.args.self.now.failures _
          c.find_shelf-found.result c.counted.result (λ w. map.get w.shelves c.args.shelf.now)
          c.find_shelf-found.ensures.spares c.counted.ensures
          (λ clean w stands. weaker c.find_shelf-found.result (λ _ it. it.2)
          (c.find_shelf-found.ensures.answer clean w stands));
    }
