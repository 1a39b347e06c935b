use Rattle.sqlite.specs.Held.{state}
use Rattle.world.proofs.Sound.{sound_keys_revoke}
use Rattle.store.proofs.StoreLemmas.{changes, kept_after_revoke_all, kept_but_keys, by_result}
use Rattle.store.proofs.store.SqlShelvesShelves.keys_revoke.Goals as goal

pub returns : goal.returns
returns g c =
    record {
      does = changes (state g.S.Store c.args.self.now.conn) (state g.S.Store c.revoke_keys.new.conn)
          c.args.self.now.kept
          (record c.args.self.now.kept { keys = c.no_keys.result }) c.args.self.now.failures _ c.revoke_keys.result
          c.counted.result _ _ _ c.counted.ensures c.revoke_keys.ensures.changes.clean
          (λ clean w stands _. (
            c.revoke_keys.ensures.answer clean w stands.0,
            c.revoke_keys.ensures.changes.at w,
            sound_keys_revoke w c.args.shelf.now _ stands.1,
          ))
          (λ w _ right. by_result c.counted.result
          (kept_after_revoke_all w c.args.self.now.kept right c.no_keys.result c.no_keys.ensures c.args.shelf.now _)
          (kept_but_keys w c.args.self.now.kept right c.no_keys.result c.no_keys.ensures));
    }
