-- The first team and its key are accepted.
use Rattle.std.proofs.Common.{◌≡◌, ℕ, List, true, false, refl, ◌∙◌, sym, ap, subst, Ok, Option, Some, None, Result}
use Rattle.std.proofs.Common.{true≢false}
use Rattle.std.specs.Prelude.{is_some}
use Rattle.std.specs.FinMap as map
use Rattle.std.proofs.lemmas.Bool.{false_from_ne_true}
use Rattle.memory_store.specs.InMemory.{in_memory}
use Rattle.world.specs.Registry.{team_added, after_team_add, key_added, after_key_add}
use Rattle.world.specs.Store.{Does}
use Rattle.world.specs.World.{World, IsWorld, only_common, with_team, is_team_name, is_key, common, text_cmp}
use Rattle.world.specs.declared.entry.Right.TheVariants.{Publishes}
use Rattle.world.specs.declared.registry.RegistryReply.{RegistryReply}
use Rattle.world.specs.declared.registry.RegistryReply.TheVariants.{Done}
use Rattle.memory_store.proofs.MapsDone.{team_done, key_done}
use Rattle.world.proofs.OnlyCommon.{only_common_stands, has_nothing_else}
use Rattle.machine.proofs.Sound.{sound}
use Rattle.machine.specs.declared.request.Event.TheVariants.{TeamAdd}
use Rattle.world.proofs.Orders.{texts_total, get_put}
use Rattle.histories.specs.Account.{Account}
use Rattle.engine.specs.Served.{ServesAllHeard}
use Rattle.engine.specs.declared.fault.Io.{Io as Failure}
use Rattle.commands.specs.Opening.{ServedFrom, opening}

-- no team is named `common`
not_common : (t : List ℕ) → is_team_name t ≡ true → t ≡ common → ⊥
not_common t named same = true≢false (sym named ∙ ap is_team_name same)

is_new : (t : List ℕ) → is_team_name t ≡ true → map.contains_key only_common.shelves t ≡ false
is_new t named = false_from_ne_true (map.contains_key only_common.shelves t)
    (λ e. not_common t named (has_nothing_else common None t e))

team_is_added : (t : List ℕ) → is_team_name t ≡ true → team_added only_common t None ≡ Done
team_is_added t named = team_done only_common t None named (is_new t named) refl

stands_then : (t : List ℕ) → map.contains_key (with_team only_common t None).shelves t ≡ true
stands_then t = ap is_some (get_put texts_total only_common.shelves t (Some common))

key_is_added : (t k : List ℕ) → is_key k ≡ true → key_added (with_team only_common t None) t k ≡ Done
key_is_added t k named =
    key_done (with_team only_common t None) t k named (stands_then t) (ap is_some (map.get-empty text_cmp k))

-- the world with one team
one_team : (t : List ℕ) → is_team_name t ≡ true → IsWorld (with_team only_common t None)
one_team t named = subst IsWorld (ap (after_team_add only_common t None) (team_is_added t named))
    (sound only_common (TeamAdd t None) only_common_stands)

module _ (old new : World) (t : List ℕ) (r : RegistryReply) where
  pub team_stands : Does (in_memory old) (in_memory new) (Ok r) (λ w. team_added w t None)
      (λ w. after_team_add w t None (team_added w t None))
      → old ≡ only_common → is_team_name t ≡ true → new ≡ with_team only_common t None
  team_stands does begins named =
      (does.at tt only_common (begins, only_common_stands) tt).ok.0
      ∙ ap (after_team_add only_common t None) (team_is_added t named)

  pub key_stands : (k : List ℕ)
      → Does (in_memory old) (in_memory new) (Ok r) (λ w. key_added w t k)
      (λ w. after_key_add w t k Publishes (key_added w t k))
      → old ≡ with_team only_common t None → is_team_name t ≡ true → is_key k ≡ true → new ≡ opening t k
  key_stands k does begins team named =
      (does.at tt (with_team only_common t None) (begins, one_team t team) tt).ok.0
      ∙ ap (after_key_add (with_team only_common t None) t k Publishes) (key_is_added t k named)

-- requests that were answered from shelves at the opening's world were answered from the opening
pub served_from : (start begin end : World) (came came_new : Account) (written written_new : Option (List ℕ))
    (result : Result (Unit {0}) Failure)
    → ServesAllHeard (in_memory start) (in_memory end) came came_new written written_new result → start ≡ begin
    → ServedFrom begin came came_new written written_new result
served_from start begin end came came_new written written_new result serves is =
    (end, subst (λ w. ServesAllHeard (in_memory w) (in_memory end) came came_new written written_new result) is serves)
