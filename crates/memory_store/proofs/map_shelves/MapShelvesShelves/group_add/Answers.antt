use Rattle.std.proofs.Common.{◌≡◌, ◌∙◌, ap, sym, refl, rules, true, false}
use Rattle.std.specs.FinMap as map
use Rattle.world.specs.declared.registry.RegistryReply.{RegistryReply}
use Rattle.world.specs.declared.registry.RegistryReply.TheVariants.{Done}
use Rattle.world.specs.World.{World, with_group, is_team_name}
use Rattle.world.specs.Registry.{group_added, after_group_add}
use Rattle.world.proofs.Sound.{sound_group}
use Rattle.memory_store.proofs.MapsDone.{done, group_done, no_fault}
use Rattle.memory_store.proofs.map_shelves.MapShelvesShelves.group_add.Goals as goal

pub returns : goal.returns
returns c = record {
  does = record {
    honest = λ h. h;
    at = λ _ w is _.
        let m = c.args.self.now in
        let t = c.args.name.now in
        let named : is_team_name t ≡ true = search rules in
        let free : map.contains_key c.self.inside.shelves t ≡ false = search rules in
        let added : group_added w t ≡ Done =
        ap (λ x. group_added x t) (sym is.0)
        ∙ group_done m t named (ap (λ (x : World). map.contains_key x.shelves t) (sym c.self.view_is) ∙ free) in
        done _ _ w Done (group_added w t) (after_group_add w t (group_added w t)) (sym added)
        (c.in_ok-add_shelf.ensures.ok ∙ ap (λ x. with_group x t) is.0
        ∙ ap (λ (r : RegistryReply). after_group_add w t r) (sym added))
        (sound_group w t _ is.1 refl);
    cause = no_fault _ _ _;
  };
}
