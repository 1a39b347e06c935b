-- A change of a store in memory, which stands for one world.
use Rattle.std.proofs.Common.{◌≡◌, ℕ, List, true, false, refl, Ok, inl, inr, Option, arith}
use Rattle.std.specs.FinMap as map
use Rattle.world.specs.declared.registry.RegistryReply.TheVariants.{Done}
use Rattle.world.specs.World.{World, IsWorld, is_team_name, is_key}
use Rattle.world.specs.Registry.{lacks_group, team_added, group_added, key_added, key_revoked, keys_revoked}
use Rattle.world.specs.Store.{DoesAt, ReadsAt, HasCause}
use Rattle.world.proofs.Causes.{answers}
use Rattle.memory_store.specs.InMemory.{in_memory}

-- no device fails
pub no_fault : {T : Type 0} (old new : World) (x : T) → HasCause (in_memory old) (in_memory new) (Ok x)
no_fault old new x = answers (in_memory old) (in_memory new) x (omega arith)

-- the answer is the value, and the store holds the next world
pub done : {T : Type 0} (old new w : World) (x value : T) (next : World) → x ≡ value → new ≡ next → IsWorld next
    → DoesAt (in_memory old) (in_memory new) w (Ok x) value next
done old new w x value next answer same is = record {
  answer = answer;
  ok = (same, is);
  err = tt;
  crash = record { either = λ _. inr same; alone = λ _. inl same; settled = inl (inl same); failed = tt };
}

-- the answer is the value, and nothing changes
pub read : {T : Type 0} (m w : World) (x value : T) → ((m ≡ w) × IsWorld w) → x ≡ value
    → ReadsAt (in_memory m) (in_memory m) w (Ok x) value
read m w x value is answer = record { answer = answer; stays = is; left = λ x y left. left }

pub team_done : (w : World) (t : List ℕ) (group : Option (List ℕ)) → is_team_name t ≡ true
    → map.contains_key w.shelves t ≡ false → lacks_group w group ≡ false → team_added w t group ≡ Done
team_done w t group named free has = rw (named, free, has) refl

pub group_done : (w : World) (g : List ℕ) → is_team_name g ≡ true → map.contains_key w.shelves g ≡ false
    → group_added w g ≡ Done
group_done w g named free = rw (named, free) refl

pub key_done : (w : World) (s k : List ℕ) → is_key k ≡ true → map.contains_key w.shelves s ≡ true
    → map.contains_key w.keys k ≡ false → key_added w s k ≡ Done
key_done w s k named there free = rw (named, there, free) refl

pub key_gone : (w : World) (k : List ℕ) → map.contains_key w.keys k ≡ true → key_revoked w k ≡ Done
key_gone w k there = rw there refl

pub keys_gone : (w : World) (s : List ℕ) → map.contains_key w.shelves s ≡ true → keys_revoked w s ≡ Done
keys_gone w s there = rw there refl
