use Rattle.std.proofs.Common.{◌≡◌, false, ap, refl, rules}
use Rattle.sqlite.specs.Held.{state}
use Rattle.world.specs.declared.registry.RegistryReply.{RegistryReply}
use Rattle.world.specs.declared.registry.RegistryReply.TheVariants.{Name}
use Rattle.world.specs.World.{is_key}
use Rattle.world.specs.Registry.{after_key_add}
use Rattle.world.proofs.Sound.{sound_key}
use Rattle.store.proofs.StoreLemmas.{changes, kept_after_key, refused, by_result}
use Rattle.statements.proofs.AddKeyLemmas.{misnamed}
use Rattle.store.proofs.store.SqlShelvesShelves.key_add.Goals as goal

pub returns-then-not-is_key : goal.returns-then-not-is_key
returns-then-not-is_key g c =
    let shelf = c.args.shelf.now in
    let key = c.args.key.now in
    let wrong : is_key key ≡ false = search rules in
    record {
      does = refused (state g.S.Store c.args.self.now.conn) c.args.self.now.kept c.args.self.now.failures Name _ _
          (λ w. let named = misnamed w shelf key wrong in
          (named, ap (λ (r : RegistryReply). after_key_add w shelf key c.args.right r) named));
    }

pub returns : goal.returns
returns g c =
    record {
      does = changes (state g.S.Store c.args.self.now.conn) (state g.S.Store c.add_key.new.conn) c.args.self.now.kept
          c.args.self.now.kept
          c.args.self.now.failures _ c.add_key.result c.counted.result _ _ _ c.counted.ensures
          c.add_key.ensures.changes.clean
          (λ clean w stands _. (
            c.add_key.ensures.answer clean w stands.0,
            c.add_key.ensures.changes.at w,
            sound_key w c.args.shelf.now c.args.key.now c.args.right _ stands.1 refl,
          ))
          (λ w _ right. by_result c.counted.result
          (kept_after_key w c.args.self.now.kept right c.args.shelf.now c.args.key.now c.args.right _ refl) right);
    }
