-- The registry: adding groups, teams and keys, and taking keys away.
use Rattle.std.specs.Prelude.{ℕ, List, Bool, true, false, not, ◌&&◌, if◌then◌else◌, Option, Some, None, bytes_eq}
use Rattle.std.specs.FinMap as map
use Rattle.world.specs.declared.entry.Right.{Right}
use Rattle.world.specs.declared.registry.RegistryReply.{RegistryReply}
use Rattle.world.specs.declared.registry.RegistryReply.TheVariants.{Done, Name, Taken, NoTeam, NoKey, NoGroup}
use Rattle.world.specs.World.{World, common, is_team_name, is_key, with_key, without_key, without_keys_on}
use Rattle.world.specs.World.{with_team, with_group}

-- whether a shelf exists and has no parent
abbrev pub is_top : Option (Option (List ℕ)) → Bool
is_top None = false
is_top (Some None) = true
is_top (Some (Some parent)) = false

-- whether the name is that of a group
abbrev pub is_group : World → List ℕ → Bool
is_group w g = is_top (map.get w.shelves g) && not (bytes_eq g common)

-- whether a group is named and does not exist
abbrev pub lacks_group : World → Option (List ℕ) → Bool
lacks_group w None = false
lacks_group w (Some group) = not (is_group w group)

-- the outcome of adding a team, as a member of a group if one is named
abbrev pub team_added : World → List ℕ → Option (List ℕ) → RegistryReply
team_added w t group =
    if not (is_team_name t) then Name
    else if map.contains_key w.shelves t then Taken
    else if lacks_group w group then NoGroup
    else Done

-- the outcome of adding a group
abbrev pub group_added : World → List ℕ → RegistryReply
group_added w g = if not (is_team_name g) then Name else if map.contains_key w.shelves g then Taken else Done

-- the outcome of adding a key to a shelf
abbrev pub key_added : World → List ℕ → List ℕ → RegistryReply
key_added w s k =
    if not (is_key k) then Name
    else if not (map.contains_key w.shelves s) then NoTeam
    else if map.contains_key w.keys k then Taken
    else Done

-- the outcome of taking a key away
abbrev pub key_revoked : World → List ℕ → RegistryReply
key_revoked w k = if map.contains_key w.keys k then Done else NoKey

-- the outcome of taking away all keys of a shelf, of which it may have none
abbrev pub keys_revoked : World → List ℕ → RegistryReply
keys_revoked w s = if map.contains_key w.shelves s then Done else NoTeam

-- the world after adding a team with this outcome: one more team after `Done`, otherwise unchanged
abbrev pub after_team_add : World → List ℕ → Option (List ℕ) → RegistryReply → World
after_team_add w t group Done = with_team w t group
after_team_add w t group r = w

-- the world after adding a group with this outcome
abbrev pub after_group_add : World → List ℕ → RegistryReply → World
after_group_add w g Done = with_group w g
after_group_add w g r = w

-- the world after adding a key with this outcome
abbrev pub after_key_add : World → List ℕ → List ℕ → Right → RegistryReply → World
after_key_add w s k right Done = with_key w k (record { shelf = s; right = right })
after_key_add w s k right r = w

-- the world after taking a key away with this outcome
abbrev pub after_key_revoke : World → List ℕ → RegistryReply → World
after_key_revoke w k Done = without_key w k
after_key_revoke w k r = w

-- the world after taking away all keys of a shelf with this outcome
abbrev pub after_keys_revoke : World → List ℕ → RegistryReply → World
after_keys_revoke w s Done = without_keys_on w s
after_keys_revoke w s r = w
