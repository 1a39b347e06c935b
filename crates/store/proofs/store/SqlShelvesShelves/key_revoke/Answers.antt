use Rattle.sqlite.specs.Held.{state}
use Rattle.world.proofs.Sound.{sound_revoke}
use Rattle.store.proofs.StoreLemmas.{changes, kept_after_revoke, kept_but_keys, by_result}
use Rattle.store.proofs.store.SqlShelvesShelves.key_revoke.Goals as goal

pub returns : goal.returns
returns g c =
    record {
      does = changes (state g.S.Store c.args.self.now.conn) (state g.S.Store c.revoke_key.new.conn) c.args.self.now.kept
          (record c.args.self.now.kept { keys = c.no_keys.result }) c.args.self.now.failures _ c.revoke_key.result
          c.counted.result _ _ _ c.counted.ensures c.revoke_key.ensures.changes.clean
          (λ clean w stands _. (
            c.revoke_key.ensures.answer clean w stands.0,
            c.revoke_key.ensures.changes.at w,
            sound_revoke w c.args.key.now _ stands.1,
          ))
          (λ w _ right. by_result c.counted.result
          (kept_after_revoke w c.args.self.now.kept right c.no_keys.result c.no_keys.ensures c.args.key.now _)
          (kept_but_keys w c.args.self.now.kept right c.no_keys.result c.no_keys.ensures));
    }
