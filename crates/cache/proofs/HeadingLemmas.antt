-- A kept heading is what its shelf sees, also once a group is added.
use Rattle.std.proofs.Common.{◌≡◌, ◌∙◌, ℕ, List, false, Some, sym, ap, subst}
use Rattle.std.specs.Prelude.{IsTrue}
use Rattle.std.specs.FinMap as map
use Rattle.std.proofs.lemmas.Bool.{and_parts}
use Rattle.world.specs.World.{World, view, with_group}
use Rattle.world.proofs.Orders.{text_same}
use Rattle.outline.specs.Seen.{seen_heading}
use Rattle.cache.specs.declared.headings.KeptHeading.{KeptHeading}
use Rattle.cache.specs.Headings.{is_of, AreHeadings}
use Rattle.cache.specs.Recent.{Holds}
use Rattle.cache.proofs.GroupLemmas.{same_view}
use Rattle.cache.proofs.RecentLemmas.{Held}

-- the heading is what the shelf sees of the version
abbrev IsSeen : World → KeptHeading → List ℕ → List ℕ → List ℕ → Type 0
IsSeen w it s p v = Some it.seen ≡ seen_heading (view w s p v)

pub found_heading : (w : World) (headings : Held KeptHeading) (it : KeptHeading) (s p v : List ℕ) → Holds headings it
    → IsTrue (is_of s p v it) → AreHeadings w headings
    → Some it.seen ≡ seen_heading (view w s p v)
found_heading w headings it s p v at is are =
    let two = and_parts _ _ is in
    let one = and_parts _ _ two.0 in
    subst (λ t. IsSeen w it t p v) (text_same it.shelf s one.0)
    (subst (λ t. IsSeen w it it.shelf t v) (text_same it.path p one.1)
    (subst (IsSeen w it it.shelf it.path) (text_same it.version v two.1) (are it at)))

-- headings stay right when a group is added
pub headings_still : (w : World) (g : List ℕ) → map.contains_key w.shelves g ≡ false → (headings : Held KeptHeading)
    → AreHeadings w headings → AreHeadings (with_group w g) headings
headings_still w g free headings are it at = are it at
    ∙ ap seen_heading (sym (same_view w g free it.shelf it.path it.version))
