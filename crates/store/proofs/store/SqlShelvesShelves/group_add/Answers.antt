use Rattle.std.proofs.Common.{◌≡◌, false, ap, refl, rules}
use Rattle.sqlite.specs.Held.{state}
use Rattle.world.specs.declared.registry.RegistryReply.{RegistryReply}
use Rattle.world.specs.declared.registry.RegistryReply.TheVariants.{Name}
use Rattle.world.specs.World.{is_team_name}
use Rattle.world.specs.Registry.{after_group_add}
use Rattle.world.proofs.Sound.{sound_group}
use Rattle.store.proofs.StoreLemmas.{changes, kept_after_group, refused, by_result}
use Rattle.statements.proofs.AddTeamLemmas.{misnamed_group}
use Rattle.store.proofs.store.SqlShelvesShelves.group_add.Goals as goal

pub returns-then-not-is_team_name : goal.returns-then-not-is_team_name
returns-then-not-is_team_name g c =
    let name = c.args.name.now in
    let wrong : is_team_name name ≡ false = search rules in
    record {
      does = refused (state g.S.Store c.args.self.now.conn) c.args.self.now.kept c.args.self.now.failures Name _ _
          (λ w. let named = misnamed_group w name wrong in
          (named, ap (λ (r : RegistryReply). after_group_add w name r) named));
    }

pub returns : goal.returns
returns g c =
    record {
      does = changes (state g.S.Store c.args.self.now.conn) (state g.S.Store c.add_group.new.conn) c.args.self.now.kept
          c.args.self.now.kept
          c.args.self.now.failures _ c.add_group.result c.counted.result _ _ _ c.counted.ensures
          c.add_group.ensures.changes.clean
          (λ clean w stands _. (
            c.add_group.ensures.answer clean w stands.0,
            c.add_group.ensures.changes.at w,
            sound_group w c.args.name.now _ stands.1 refl,
          ))
          (λ w _ right. by_result c.counted.result
          (kept_after_group w c.args.self.now.kept right c.args.name.now _ refl) right);
    }
