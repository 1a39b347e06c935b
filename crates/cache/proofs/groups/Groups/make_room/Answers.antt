use Rattle.std.proofs.Common.{◌∙◌, ap, arith}
use Rattle.std.specs.FinMap as map
use Rattle.world.specs.World.{text_cmp}
use Rattle.cache.proofs.groups.Groups.make_room.Goals as goal

pub returns-then-len-ge-MOST_GROUPS-clause-room : goal.returns-then-len-ge-MOST_GROUPS-clause-room
returns-then-len-ge-MOST_GROUPS-clause-room c =
    let none = ap map.len c.new.ensures ∙ map.len-empty text_cmp _ in
    omega (arith, none)
