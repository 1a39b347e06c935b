-- The keys of a world, and the names of its shelves.
use Rattle.std.specs.FinMap as map
use Rattle.std.specs.FinSet as set
use Rattle.world.specs.World.{World, text_cmp}

-- all keys
abbrev pub keys_in : World → set.FinSet text_cmp
keys_in w = set.from_list (map.keys w.keys)

-- the names of all shelves
abbrev pub shelves_in : World → set.FinSet text_cmp
shelves_in w = set.from_list (map.keys w.shelves)
