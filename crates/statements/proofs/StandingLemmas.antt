-- How an entry stands to the one that is seen, of which a row was found.
use Rattle.std.proofs.Common.{◌≡◌, ◌&&◌, Bool, true, false, true≢false, cond, Option, Some, None, refl, sym, ap, ◌∙◌}
use Rattle.std.proofs.Common.{option_map}
use Rattle.std.specs.Prelude.{bytes_eq}
use Rattle.sqlite.specs.Tree.{Trees}
use Rattle.world.specs.declared.entry.Entry.{Entry}
use Rattle.world.specs.declared.entry.Seen.{Seen}
use Rattle.world.specs.declared.standing.Standing.TheVariants.{Absent, Same, Other}
use Rattle.world.specs.Standing.{same_time, standing_to}
use Rattle.world.specs.World.{heading_of}
use Rattle.statements.specs.declared.entries.VersionRow.{VersionRow}
use Rattle.statements.specs.Reading.{IsRowOf, same_heading}

abbrev entry_in : Option Seen → Option Entry
entry_in seen = option_map (λ it. it.entry) seen

-- if the rest is equal, the entries are equal exactly if the zips are
by_zips : (a z t : Bool) → (a && t) ≡ true → (a && z && t) ≡ z
by_zips true true true h = refl
by_zips true true false h = absurd (true≢false (sym h))
by_zips true false true h = refl
by_zips true false false h = refl
by_zips false z t h = absurd (true≢false (sym h))

not_same : (a z t : Bool) → (a && t) ≡ false → (a && z && t) ≡ false
not_same true true true h = absurd (true≢false h)
not_same true true false h = refl
not_same true false t h = refl
not_same false z t h = refl

module _ (db : Trees) (seen : Option Seen) (row : VersionRow) (e : Entry) (it : IsRowOf db seen row) where
  -- the row's entry compares with the given one as the entry that is seen does
  standing_is : standing_to (Some it.entry) e ≡ standing_to (entry_in seen) e
  standing_is = sym (ap (λ o. standing_to (entry_in o) e) it.is)

  heads : same_heading row.heading e ≡ same_heading (heading_of it.entry) e
  heads = ap (λ h. same_heading h e) it.heading

  pub standing_whole : (same : Bool) → same_heading row.heading e ≡ true → same ≡ bytes_eq it.entry.zip e.zip
      → cond same Same Other ≡ standing_to (entry_in seen) e
  standing_whole same headed zips =
      let decided = by_zips (bytes_eq it.entry.gomod e.gomod) (bytes_eq it.entry.zip e.zip)
      (same_time it.entry.time e.time) (sym heads ∙ headed) in
      ap (λ b. cond b Same Other) (zips ∙ sym decided) ∙ standing_is

  pub standing_other : same_heading row.heading e ≡ false → Other ≡ standing_to (entry_in seen) e
  standing_other headed =
      let decided = not_same (bytes_eq it.entry.gomod e.gomod) (bytes_eq it.entry.zip e.zip)
      (same_time it.entry.time e.time) (sym heads ∙ headed) in
      ap (λ b. cond b Same Other) (sym decided) ∙ standing_is

pub standing_lacks : (seen : Option Seen) (e : Entry) → seen ≡ None → Absent ≡ standing_to (entry_in seen) e
standing_lacks seen e none = sym (ap (λ o. standing_to (entry_in o) e) none)
