-- The row of a version that a shelf sees, and what it shows.
use Rattle.std.proofs.Common.{◌≡◌, ◌+◌, ◌<◌, ◌≤◌, ℕ, true, List, [], ◌∷◌, length, get_or, drop, map as each, filter}
use Rattle.std.proofs.Common.{Option, Some, None, refl, sym, ap, subst, ◌∙◌, true≢false}
use Rattle.std.proofs.lemmas.List.{at_drop_more, drop_all}
use Rattle.std.specs.Borrow.{Bor}
use Rattle.std.specs.Option.{option_or}
use Rattle.std.proofs.lemmas.Bool.{and_parts}
use Rattle.std.specs.FinMap as map
use Rattle.sqlite.specs.declared.types.Value.TheVariants.{Int, Text, Blob}
use Rattle.sqlite.specs.Collation.TheVariants.{Binary}
use Rattle.sqlite_sql.specs.declared.ops.BinaryOp.TheVariants.{Compare}
use Rattle.sqlite_sql.specs.declared.ops.CompareOp.TheVariants.{Eq}
use Rattle.sqlite.specs.Order.{Row, column}
use Rattle.sqlite.specs.Values.{or_null}
use Rattle.sqlite.specs.Tree.{Trees, rowid}
use Rattle.sqlite.specs.Term.{Term, col, op2}
use Rattle.sqlite.specs.Query.{Query}
use Rattle.sqlite.specs.Effect.{Database}
use Rattle.sqlite_schema.specs.Rules.{equal}
use Rattle.world.specs.declared.entry.Place.{Place}
use Rattle.world.specs.declared.entry.Entry.{Entry}
use Rattle.world.specs.declared.entry.Seen.{Seen}
use Rattle.world.specs.declared.entry.Heading.{Heading}
use Rattle.world.specs.World.{World, place, seen_at, first_on}
use Rattle.statements.specs.declared.entries.VersionRow.{VersionRow}
use Rattle.tables.specs.Means.{Means, IsAt, ArePieces}
use Rattle.outline.specs.Seen.{seen_heading}
use Rattle.statements.specs.Reading.{IsRowOf, entry_with}
use Rattle.statements.specs.Lookup.{lookup, passes, FirstFound}
use Rattle.tables.proofs.ValueLemmas.{equals_text, equals_itself}
use Rattle.statements.proofs.LookupLemmas.{Picks, picked_found}
use Rattle.statements.proofs.ShelfLemmas.{same_option}
use Rattle.tables.proofs.CountedRows.{same_place}

abbrev by_place : List Term
by_place = op2 (Compare Eq Binary) (col 1 2) (col 0 0) ∷ op2 (Compare Eq Binary) (col 1 3) (col 0 1)
    ∷ op2 (Compare Eq Binary) (col 1 4) (col 0 2) ∷ []

abbrev row_shown : List Term
row_shown = col 1 0 ∷ col 1 2 ∷ col 1 5 ∷ col 1 6 ∷ []

abbrev pub row_query : Query
row_query = lookup 6 by_place row_shown

abbrev pub place_params : Place → Row
place_params p = Text p.shelf ∷ Text p.path ∷ Text p.version ∷ []

module _ (p : Place) (db : Database) (w : World) (means : Means db.trees w) where
  passes_at : (row : Row) → passes by_place (place_params p) row ≡ true → IsAt row p
  passes_at row h =
      let one = and_parts _ _ h in
      let two = and_parts _ _ one.1 in
      let three = and_parts _ _ two.1 in (
        equals_text (column row 2) p.shelf one.0,
        equals_text (column row 3) p.path two.0,
        equals_text (column row 4) p.version three.0,
      )

  passes_own : (row : Row) → IsAt row p → passes by_place (place_params p) row ≡ true
  passes_own row at = rw (at.0, at.1, at.2, equals_itself p.shelf, equals_itself p.path, equals_itself p.version) refl

  -- the row that the query of a place finds is that of the entry that the shelf has there
  row_some : (out : Row) (v : VersionRow) → FirstFound (db.trees 6) by_place row_shown (place_params p) (Some out)
      → column out 0 ≡ Int v.id → column out 1 ≡ Text v.shelf → column out 2 ≡ or_null Text v.heading.time
      → column out 3 ≡ Blob v.heading.gomod
      → IsRowOf db.trees (first_on w (p.shelf ∷ []) p.path p.version) v
  row_some out v found id shelf time gomod =
      let it = means.entries.each found.0 found.1 in
      let at = passes_at found.0 found.2 in
      let same : it.0.0 ≡ p = same_place found.0 it.0.0 p it.1.place at in
      let holds : map.get w.entries p ≡ Some it.0.1 = subst (λ q. map.get w.entries q ≡ Some it.0.1) same it.2 in
      let shelves : p.shelf ≡ v.shelf = let e = sym (ap (λ (r : Row). column r 1) found.3 ∙ at.0) ∙ shelf in cc in
      let mods : v.heading.gomod ≡ it.0.1.gomod = let e = sym gomod
      ∙ (ap (λ (r : Row). column r 3) found.3 ∙ it.1.gomod) in cc in
      let times = same_option v.heading.time it.0.1.time
      (sym time ∙ (ap (λ (r : Row). column r 2) found.3 ∙ it.1.time)) in
      let number : rowid found.0 ≡ Int v.id = sym (ap (λ (r : Row). column r 0) found.3) ∙ id in
      record {
        entry = it.0.1;
        is = ap (λ o. option_or (seen_at o p.shelf) None) holds ∙ ap (seen_at (Some it.0.1)) shelves;
        heading = λ i. record { gomod = mods i; time = times i };
        zip = subst (λ n. ArePieces (filter (λ row. equal Binary (column row 1) n) (db.trees 8)) it.0.1.zip) number
            it.1.zip;
      }

  row_none : FirstFound (db.trees 6) by_place row_shown (place_params p) None → map.get w.entries p ≡ None
  row_none h = go (map.get w.entries p) refl
    where
      go : (o : Option Entry) → map.get w.entries p ≡ o → map.get w.entries p ≡ None
      go None is = is
      go (Some e) is = absurd (let it = means.entries.found (p, e) is in
          true≢false (sym (passes_own it.0 it.2.place) ∙ h it.0 it.1))

  pub row_read : (row : Row) (v : VersionRow) → Picks row_query (place_params p) db (Some row)
      → column row 0 ≡ Int v.id → column row 1 ≡ Text v.shelf → column row 2 ≡ or_null Text v.heading.time
      → column row 3 ≡ Blob v.heading.gomod
      → IsRowOf db.trees (first_on w (p.shelf ∷ []) p.path p.version) v
  row_read row v picked = row_some row v
      (picked_found (place_params p) db 6 by_place row_shown [] (λ _. refl) (Some row) picked)

  pub row_lacks : Picks row_query (place_params p) db None → first_on w (p.shelf ∷ []) p.path p.version ≡ None
  row_lacks picked = ap (λ o. option_or (seen_at o p.shelf) None)
      (row_none (picked_found (place_params p) db 6 by_place row_shown [] (λ _. refl) None picked))

-- ---- along the shelves

module _ (w : World) (s : List ℕ) (ss : List (List ℕ)) (p v : List ℕ) where
  -- what one shelf has is what it and the shelves behind it have
  row_here : (db : Trees) (row : VersionRow) → IsRowOf db (first_on w (s ∷ []) p v) row
      → IsRowOf db (first_on w (s ∷ ss) p v) row
  row_here db row = elim (map.get w.entries (place s p v)) as
      (λ o. IsRowOf db (option_or (seen_at o s) None) row
      → IsRowOf db (option_or (seen_at o s) (first_on w ss p v)) row) [
        | Some e ↦ λ it. it
        | None ↦ λ it. absurd (let e = it.is in cc)
      ]

  -- if a shelf has nothing, it and the shelves behind it have what those behind it have
  none_here : first_on w (s ∷ []) p v ≡ None → first_on w (s ∷ ss) p v ≡ first_on w ss p v
  none_here = elim (map.get w.entries (place s p v)) as
      (λ o. option_or (seen_at o s) None ≡ None → option_or (seen_at o s) (first_on w ss p v) ≡ first_on w ss p v) [
        | Some e ↦ λ none. absurd (cc)
        | None ↦ λ none. refl
      ]

abbrev pub texts_of : List (Bor (List ℕ)) → List (List ℕ)
texts_of shelves = each (λ s. s.now) shelves

abbrev no_shelf : Bor (List ℕ)
no_shelf = record { ref_ptr = (0, 0); now = [] }

-- what is found on the shelves that are left
module _ (w : World) (shelves : List (Bor (List ℕ))) (i : ℕ) (p v : List ℕ) (seen : Option Seen)
    (left : first_on w (texts_of (drop i shelves)) p v ≡ seen) where
  abbrev shelf : List ℕ
  shelf = (get_or shelves i no_shelf).now

  split : i < length shelves → first_on w (shelf ∷ texts_of (drop (i + 1) shelves)) p v ≡ seen
  split within = sym (at_drop_more (λ ss. first_on w (texts_of ss) p v) shelves i no_shelf within) ∙ left

  pub found_next : i < length shelves → (db : Trees) (row : VersionRow) → IsRowOf db (first_on w (shelf ∷ []) p v) row
      → IsRowOf db seen row
  found_next within db row is =
      subst (λ o. IsRowOf db o row) (split within) (row_here w shelf (texts_of (drop (i + 1) shelves)) p v db row is)

  pub none_next : i < length shelves → first_on w (shelf ∷ []) p v ≡ None
      → first_on w (texts_of (drop (i + 1) shelves)) p v ≡ seen
  none_next within none = sym (none_here w shelf (texts_of (drop (i + 1) shelves)) p v none) ∙ split within

  pub none_left : length shelves ≤ i → seen ≡ None
  none_left past = sym left ∙ ap (λ ss. first_on w (texts_of ss) p v) (drop_all i shelves past)

-- ---- the entry and the heading of a row

-- the row and its zip are the entry that is seen
pub entry_of_row : (db : Trees) (seen : Option Seen) (row : VersionRow) (zip : List ℕ) → (it : IsRowOf db seen row)
    → zip ≡ it.entry.zip → Some (record { shelf = row.shelf; entry = entry_with row.heading zip }) ≡ seen
entry_of_row db seen row zip it zips =
    let mods = ap (λ (h : Heading). h.gomod) it.heading in
    let times = ap (λ (h : Heading). h.time) it.heading in
    let whole : entry_with row.heading zip ≡ it.entry = λ i. record { gomod = mods i; zip = zips i; time = times i } in
    ap (λ (e : Entry). Some (record { shelf = row.shelf; entry = e })) whole ∙ sym it.is

-- the row alone is what is seen without the zip
pub seen_of_row : (db : Trees) (seen : Option Seen) (row : VersionRow) → IsRowOf db seen row
    → Some (record { shelf = row.shelf; heading = row.heading }) ≡ seen_heading seen
seen_of_row db seen row it = ap (λ (h : Heading). Some (record { shelf = row.shelf; heading = h })) it.heading
    ∙ sym (ap seen_heading it.is)
