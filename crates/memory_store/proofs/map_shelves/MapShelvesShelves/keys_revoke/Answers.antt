use Rattle.std.proofs.Common.{◌≡◌, ◌∙◌, ap, sym, rules, true}
use Rattle.std.specs.FinMap as map
use Rattle.world.specs.declared.entry.Holder.{Holder}
use Rattle.world.specs.declared.registry.RegistryReply.{RegistryReply}
use Rattle.world.specs.declared.registry.RegistryReply.TheVariants.{Done}
use Rattle.world.specs.World.{World, text_cmp, without_keys_on}
use Rattle.world.specs.Registry.{keys_revoked, after_keys_revoke}
use Rattle.world.proofs.Sound.{sound_keys_revoke}
use Rattle.memory_store.proofs.MapsDone.{done, keys_gone, no_fault}
use Rattle.memory_store.proofs.map_shelves.MapShelvesShelves.keys_revoke.Goals as goal

pub returns-clause-does : goal.returns-clause-does
returns-clause-does c = record {
  honest = λ h. h;
  at = λ _ w is _.
      let s = c.args.shelf.now in
      let inside : map.FinMap text_cmp Holder
      → World = λ m. record { keys = m; shelves = c.self.inside.shelves; entries = c.self.inside.entries } in
      let was : World = inside c.self.inside.keys in
      let same : was ≡ w = c.self.view_is ∙ is.0 in
      let there : map.contains_key was.shelves s ≡ true = search rules in
      let gone : keys_revoked w s ≡ Done = ap (λ x. keys_revoked x s) (sym same) ∙ keys_gone was s there in
      done _ _ w Done (keys_revoked w s) (after_keys_revoke w s (keys_revoked w s)) (sym gone)
      (ap inside c.remove_held_on.ensures ∙ ap (λ x. without_keys_on x s) same
      ∙ ap (λ (r : RegistryReply). after_keys_revoke w s r) (sym gone))
      (sound_keys_revoke w s _ is.1);
  cause = no_fault _ _ _;
}
