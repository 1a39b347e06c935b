-- Worlds by the profile that reads their go.mods.
use Rattle.gomod.specs.Keywords.{profile_1, profile_2}
use Rattle.world.specs.World.{World, IsWorldBy}

-- A world of the first profile is a world of the second.
abbrev pub Profile2KeepsWorlds : Type 0
Profile2KeepsWorlds = (w : World) → IsWorldBy profile_1 w → IsWorldBy profile_2 w
