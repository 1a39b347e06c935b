use Rattle.std.proofs.Common.{◌≡◌, false, ap, refl, option_copied, rules}
use Rattle.sqlite.specs.Held.{state}
use Rattle.world.specs.declared.registry.RegistryReply.{RegistryReply}
use Rattle.world.specs.declared.registry.RegistryReply.TheVariants.{Name}
use Rattle.world.specs.World.{is_team_name}
use Rattle.world.specs.Registry.{after_team_add}
use Rattle.world.proofs.Sound.{sound_team}
use Rattle.store.proofs.StoreLemmas.{changes, kept_but_lists, kept_after_team, refused, by_result}
use Rattle.statements.proofs.AddTeamLemmas.{misnamed_team}
use Rattle.store.proofs.store.SqlShelvesShelves.team_add.Goals as goal

pub returns-then-not-is_team_name : goal.returns-then-not-is_team_name
returns-then-not-is_team_name g c =
    let name = c.args.name.now in
    let group = option_copied c.args.group in
    let wrong : is_team_name name ≡ false = search rules in
    record {
      does = refused (state g.S.Store c.args.self.now.conn) c.args.self.now.kept c.args.self.now.failures Name _ _
          (λ w. let named = misnamed_team w name group wrong in
          (named, ap (λ (r : RegistryReply). after_team_add w name group r) named));
    }

pub returns : goal.returns
returns g c =
    let name = c.args.name.now in
    let group = option_copied c.args.group in
    let lists = c.no_lists.result in
    let headings = c.no_headings.result in
    let absences = c.new.result in
    record {
      does = changes (state g.S.Store c.args.self.now.conn) (state g.S.Store c.add_team.new.conn) c.args.self.now.kept
          (record c.args.self.now.kept { lists = lists; headings = headings; absences = absences })
          c.args.self.now.failures _ c.add_team.result c.counted.result _ _ _ c.counted.ensures
          c.add_team.ensures.changes.clean
          (λ clean w stands _. (
            c.add_team.ensures.answer clean w stands.0,
            c.add_team.ensures.changes.at w,
            sound_team w name group _ stands.1 refl,
          ))
          (λ w _ right. by_result c.counted.result
          (kept_after_team w c.args.self.now.kept right lists headings absences c.no_lists.ensures
          c.no_headings.ensures c.new.ensures name group _ refl)
          (kept_but_lists w c.args.self.now.kept right lists headings absences c.no_lists.ensures c.no_headings.ensures
          c.new.ensures));
    }
