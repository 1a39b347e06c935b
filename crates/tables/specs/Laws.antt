-- What holds of tables and worlds by their definitions alone.
use Rattle.std.specs.Prelude.{◌≡◌}
use Rattle.sqlite.specs.Tree.{Trees}
use Rattle.world.specs.World.{World}
use Rattle.tables.specs.Means.{Means}

-- tables stand for at most one world
abbrev pub StandForOne : Type 0
StandForOne = (db : Trees) (w x : World) → Means db w → Means db x → w ≡ x
