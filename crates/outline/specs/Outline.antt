-- What a shelf sees of a version, with the lengths of its files in the place of their bytes.
use Rattle.std.specs.Prelude.{ℕ, List, Option, length, option_map}
use Rattle.world.specs.declared.entry.Seen.{Seen}
use Rattle.world.specs.World.{World, view}
use Rattle.outline.specs.declared.outlines.Outline.{Outline}

-- the outline of an entry, with the shelf that it stands on
abbrev pub outline_of : Seen → Outline
outline_of seen = record {
  shelf = seen.shelf;
  time = seen.entry.time;
  gomod_bytes = length seen.entry.gomod;
  zip_bytes = length seen.entry.zip;
}

-- the outline of what is seen, if anything is seen
abbrev pub in_outline : Option Seen → Option Outline
in_outline seen = option_map outline_of seen

-- the outline of what a shelf sees of a version
abbrev pub outline : World → List ℕ → List ℕ → List ℕ → Option Outline
outline w s p v = in_outline (view w s p v)
