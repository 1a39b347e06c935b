-- A heading with its kept zip, and without its shelf.
use Rattle.std.proofs.Common.{◌≡◌, ◌∙◌, ℕ, List, Option, Some, None, refl, sym, ap}
use Rattle.std.specs.Prelude.{option_map}
use Rattle.std.specs.FinMap as map
use Rattle.world.specs.declared.entry.Entry.{Entry}
use Rattle.world.specs.declared.entry.Seen.{Seen}
use Rattle.world.specs.World.{World, place, first_on, heading_of, without_zip}
use Rattle.outline.specs.Seen.{seen_heading}
use Rattle.outline.specs.declared.seen.SeenHeading.{SeenHeading}
use Rattle.statements.specs.Reading.{entry_with}
use Rattle.cache.specs.Zips.{IsZipAt}
use Rattle.cache.proofs.ZipLemmas.{stands_on}

-- what is seen without the shelf is what is seen without the zip
pub heading_seen : (seen : Option Seen)
    → option_map (λ (it : SeenHeading). it.heading) (seen_heading seen) ≡ without_zip seen
heading_seen None = refl
heading_seen (Some e) = refl

-- if no heading is seen, nothing is seen
pub none_seen : (seen : Option Seen) → None ≡ seen_heading seen → None ≡ seen
none_seen None is = refl
none_seen (Some e) is = cc is

-- a heading that is seen, with the kept zip of its place, is the entry that is seen
pub whole : (w : World) (ss : List (List ℕ)) (p v : List ℕ) (h : SeenHeading) (zip : List ℕ)
    → Some h ≡ seen_heading (first_on w ss p v) → IsZipAt w (place h.shelf p v) zip
    → Some (record { shelf = h.shelf; entry = entry_with h.heading zip }) ≡ first_on w ss p v
whole w ss p v h zip = go (first_on w ss p v) refl
  where
    go : (seen : Option Seen) → first_on w ss p v ≡ seen → Some h ≡ seen_heading (first_on w ss p v)
        → IsZipAt w (place h.shelf p v) zip
        → Some (record { shelf = h.shelf; entry = entry_with h.heading zip }) ≡ first_on w ss p v
    go None is found kept = let never : Some h ≡ None = found ∙ ap seen_heading is in cc never
    go (Some e) is found kept =
        let same : h ≡ record { shelf = e.shelf; heading = heading_of e.entry } =
        let it : Some h ≡ Some (record { shelf = e.shelf; heading = heading_of e.entry }) = found
        ∙ ap seen_heading is in cc it in
        let at = stands_on w ss p v (Some e) is in
        let stored : Some kept.0 ≡ Some e.entry = sym kept.1
        ∙ (ap (λ (g : SeenHeading). map.get w.entries (place g.shelf p v)) same ∙ at) in
        let entry : kept.0 ≡ e.entry = cc stored in
        let zips : zip ≡ e.entry.zip = sym kept.2 ∙ ap (λ (x : Entry). x.zip) entry in
        ap (λ (g : SeenHeading). Some (record { shelf = g.shelf; entry = entry_with g.heading zip })) same
        ∙ ap (λ z. Some (record { shelf = e.shelf; entry = entry_with (heading_of e.entry) z })) zips ∙ sym is
