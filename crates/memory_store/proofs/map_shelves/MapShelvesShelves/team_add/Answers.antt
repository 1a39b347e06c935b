use Rattle.std.proofs.Common.{◌≡◌, ◌∙◌, ap, sym, refl, rules, true, false, ℕ, List, Option, Some, option_copied}
use Rattle.std.specs.FinMap as map
use Rattle.world.specs.declared.registry.RegistryReply.{RegistryReply}
use Rattle.world.specs.declared.registry.RegistryReply.TheVariants.{Done}
use Rattle.world.specs.World.{World, with_shelf, with_team, is_team_name}
use Rattle.world.specs.Registry.{lacks_group, team_added, after_team_add}
use Rattle.world.proofs.Sound.{sound_team}
use Rattle.memory_store.proofs.MapsDone.{done, team_done, no_fault}
use Rattle.memory_store.proofs.map_shelves.MapShelvesShelves.team_add.Goals as goal

pub returns : goal.returns
returns c = record {
  does = record {
    honest = λ h. h;
    at = λ _ w is _.
        let m = c.args.self.now in
        let t = c.args.name.now in
        let g : Option (List ℕ) = option_copied c.args.group in
        let named : is_team_name t ≡ true = search rules in
        let free : map.contains_key c.self.inside.shelves t ≡ false = search rules in
        let has : lacks_group m g ≡ false = search rules in
        let added : team_added w t g ≡ Done =
        ap (λ x. team_added x t g) (sym is.0)
        ∙ team_done m t g named (ap (λ (x : World). map.contains_key x.shelves t) (sym c.self.view_is) ∙ free)
        has in
        done _ _ w Done (team_added w t g) (after_team_add w t g (team_added w t g)) (sym added)
        (c.in_ok-add_shelf.ensures.ok
        ∙ ap (λ (x : List ℕ). with_shelf m t (Some x)) (c.in_ok-parent.ensures ∙ c.parent_of.ensures)
        ∙ ap (λ x. with_team x t g) is.0 ∙ ap (λ (r : RegistryReply). after_team_add w t g r) (sym added))
        (sound_team w t g _ is.1 refl);
    cause = no_fault _ _ _;
  };
}
