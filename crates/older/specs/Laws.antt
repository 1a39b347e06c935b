-- Laws of the tables of the older schemas and of the worlds that they stand for, which follow from the definitions
-- alone.
use Rattle.std.specs.Prelude.{◌≡◌, List, map as map_list}
use Rattle.sqlite.specs.Tree.{Trees}
use Rattle.machine.specs.Machine as machine
use Rattle.machine.specs.Ungrouped.{Ungrouped, Event, IsOf, event_in, replies}
use Rattle.world.specs.Groups.{HasNoGroup}
use Rattle.world.specs.World.{World, IsWorld}
use Rattle.older.specs.declared.schema.Format.{Format}
use Rattle.older.specs.Means.{Means}

-- Tables of an older schema stand for at most one world.
abbrev pub MeanOne : Type 0
MeanOne = (format : Format) (db : Trees) (w x : World) → Means format db w → Means format db x → w ≡ x

-- No shelf of a world that such tables stand for is a group.
abbrev pub MeanNoGroup : Type 0
MeanNoGroup = (format : Format) (db : Trees) (w : World) → Means format db w → HasNoGroup w

-- A world that such tables stand for has the keys, the shelves and the entries of a world of the machine that knows no
-- groups. It answers each list of requests, and of registry commands that name no group, as that machine does.
abbrev pub AnswersAsBefore : Type 0
AnswersAsBefore =
    (format : Format) (db : Trees) (w : World) → Means format db w → IsWorld w
    → (u : Ungrouped) × IsOf u w × ((es : List Event) → machine.replies w (map_list event_in es) ≡ replies u es)
