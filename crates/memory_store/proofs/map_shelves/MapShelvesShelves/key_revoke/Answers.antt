use Rattle.std.proofs.Common.{◌≡◌, ◌∙◌, ap, sym, rules, true}
use Rattle.std.specs.FinMap as map
use Rattle.world.specs.declared.entry.Holder.{Holder}
use Rattle.world.specs.declared.registry.RegistryReply.{RegistryReply}
use Rattle.world.specs.declared.registry.RegistryReply.TheVariants.{Done}
use Rattle.world.specs.World.{World, text_cmp, without_key}
use Rattle.world.specs.Registry.{key_revoked, after_key_revoke}
use Rattle.world.proofs.Sound.{sound_revoke}
use Rattle.memory_store.proofs.MapsDone.{done, key_gone, no_fault}
use Rattle.memory_store.proofs.map_shelves.MapShelvesShelves.key_revoke.Goals as goal

pub returns-clause-does : goal.returns-clause-does
returns-clause-does c = record {
  honest = λ h. h;
  at = λ _ w is _.
      let k = c.args.key.now in
      let inside : map.FinMap text_cmp Holder
      → World = λ m. record { keys = m; shelves = c.self.inside.shelves; entries = c.self.inside.entries } in
      let was : World = inside c.self.inside.keys in
      let same : was ≡ w = c.self.view_is ∙ is.0 in
      let there : map.contains_key was.keys k ≡ true = search rules in
      let gone : key_revoked w k ≡ Done = ap (λ x. key_revoked x k) (sym same) ∙ key_gone was k there in
      done _ _ w Done (key_revoked w k) (after_key_revoke w k (key_revoked w k)) (sym gone)
      (ap inside c.remove.ensures.rest ∙ ap (λ x. without_key x k) same
      ∙ ap (λ (r : RegistryReply). after_key_revoke w k r) (sym gone))
      (sound_revoke w k _ is.1);
  cause = no_fault _ _ _;
}
