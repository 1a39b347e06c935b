-- Kept headings.
use Rattle.std.specs.Prelude.{ℕ, ◌≡◌, ◌&&◌, List, Bool, Some, bytes_eq}
use Rattle.world.specs.World.{World, view}
use Rattle.outline.specs.Seen.{seen_heading}
use Rattle.cache.specs.declared.headings.KeptHeading.{KeptHeading}
use Rattle.cache.specs.Recent.{Holds}

-- whether a heading is what a shelf sees of a version
abbrev pub is_of : List ℕ → List ℕ → List ℕ → KeptHeading → Bool
is_of s p v it = bytes_eq it.shelf s && bytes_eq it.path p && bytes_eq it.version v

-- each kept heading is what its shelf sees of its version
abbrev pub AreHeadings : World → List (ℕ × (ℕ × KeptHeading)) → Type 0
AreHeadings w headings = (it : KeptHeading) → Holds headings it
    → Some it.seen ≡ seen_heading (view w it.shelf it.path it.version)
