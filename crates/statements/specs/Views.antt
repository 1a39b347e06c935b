-- The world after each command of the registry.
use Rattle.std.specs.Prelude.{ℕ, List, Option}
use Rattle.world.specs.declared.entry.Right.{Right}
use Rattle.world.specs.World.{World}
use Rattle.world.specs.Registry.{key_added, after_key_add, key_revoked, after_key_revoke}
use Rattle.world.specs.Registry.{keys_revoked, after_keys_revoke}
use Rattle.world.specs.Registry.{team_added, after_team_add, group_added, after_group_add}

-- the world after a command to add a key
abbrev pub with_key_added : List ℕ → List ℕ → Right → World → World
with_key_added shelf key right w = after_key_add w shelf key right (key_added w shelf key)

-- the world after a command to revoke a key
abbrev pub with_key_revoked : List ℕ → World → World
with_key_revoked key w = after_key_revoke w key (key_revoked w key)

-- the world after a command to revoke all keys of a shelf
abbrev pub with_keys_revoked : List ℕ → World → World
with_keys_revoked shelf w = after_keys_revoke w shelf (keys_revoked w shelf)

-- the world after a command to add a team, as a member of a group or of none
abbrev pub with_team_added : List ℕ → Option (List ℕ) → World → World
with_team_added name group w = after_team_add w name group (team_added w name group)

-- the world after a command to add a group
abbrev pub with_group_added : List ℕ → World → World
with_group_added name w = after_group_add w name (group_added w name)
