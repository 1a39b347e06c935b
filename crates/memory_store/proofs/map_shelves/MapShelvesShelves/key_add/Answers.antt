use Rattle.std.proofs.Common.{◌≡◌, ◌∙◌, ap, sym, refl, rules, true, false}
use Rattle.std.specs.FinMap as map
use Rattle.world.specs.declared.entry.Holder.{Holder}
use Rattle.world.specs.declared.registry.RegistryReply.{RegistryReply}
use Rattle.world.specs.declared.registry.RegistryReply.TheVariants.{Done}
use Rattle.world.specs.World.{World, text_cmp, with_key, is_key}
use Rattle.world.specs.Registry.{key_added, after_key_add}
use Rattle.world.proofs.Sound.{sound_key}
use Rattle.memory_store.proofs.MapsDone.{done, key_done, no_fault}
use Rattle.memory_store.proofs.map_shelves.MapShelvesShelves.key_add.Goals as goal

pub returns : goal.returns
returns c = record {
  does = record {
    honest = λ h. h;
    at = λ _ w is _.
        let s = c.args.shelf.now in
        let k = c.args.key.now in
        let h : Holder = record { shelf = s; right = c.args.right } in
        let inside : map.FinMap text_cmp Holder
        → World = λ m. record { keys = m; shelves = c.self.inside.shelves; entries = c.self.inside.entries } in
        let was : World = inside c.self.inside.keys in
        let same : was ≡ w = c.self.view_is ∙ is.0 in
        let named : is_key k ≡ true = search rules in
        let there : map.contains_key was.shelves s ≡ true = search rules in
        let free : map.contains_key was.keys k ≡ false = search rules in
        let added : key_added w s k ≡ Done = ap (λ x. key_added x s k) (sym same) ∙ key_done was s k named there free in
        done _ _ w Done (key_added w s k) (after_key_add w s k c.args.right (key_added w s k)) (sym added)
        (ap inside c.in_ok-insert.ensures.ok
        ∙ ap (λ x. with_key was x c.in_ok-holder.holder) c.in_ok-key.ensures.ok
        ∙ ap (λ (x : Holder). with_key was k x) c.in_ok-holder.ensures
        ∙ ap (λ x. with_key x k h) same ∙ ap (λ (r : RegistryReply). after_key_add w s k c.args.right r) (sym added))
        (sound_key w s k c.args.right _ is.1 refl);
    cause = no_fault _ _ _;
  };
}
