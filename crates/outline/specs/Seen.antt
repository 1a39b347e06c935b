-- What a shelf sees of a version without its zip.
use Rattle.std.specs.Prelude.{Option, option_map}
use Rattle.world.specs.declared.entry.Seen.{Seen}
use Rattle.world.specs.World.{heading_of}
use Rattle.outline.specs.declared.seen.SeenHeading.{SeenHeading}

-- what is seen without its zip, with the shelf that its entry stands on
abbrev pub seen_heading : Option Seen → Option SeenHeading
seen_heading seen = option_map (λ it. record { shelf = it.shelf; heading = heading_of it.entry }) seen
