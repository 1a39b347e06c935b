-- The rows of `version` of schema 1, each with its row of `body`.
use Rattle.std.proofs.Common.{◌≡◌, ◌∙◌, ℕ, Bool, true, false, List, [], ◌∷◌, codes, map as mapped, filter, flat_map}
use Rattle.std.proofs.Common.{None, Some, inl, inr, refl, sym, ap, subst, IsPermutation}
use Rattle.std.specs.List.{list_all}
use Rattle.std.specs.FinMap as map
use Rattle.std.proofs.lemmas.Bool.{and_parts, and_from}
use Rattle.std.proofs.lemmas.List.Sorted.{IsPermutation-sym}
use Rattle.sqlite.specs.declared.types.Value.{Value}
use Rattle.sqlite.specs.declared.types.Value.TheVariants.{Null, Blob}
use Rattle.sqlite.specs.Collation.TheVariants.{Binary}
use Rattle.sqlite_sql.specs.declared.ops.BinaryOp.TheVariants.{Compare}
use Rattle.sqlite_sql.specs.declared.ops.CompareOp.TheVariants.{Eq}
use Rattle.sqlite_sql.specs.Query.{or_nulls}
use Rattle.sqlite.specs.Order.{Row, column}
use Rattle.sqlite.specs.Term.{Term, col, op2, eval_all, holds}
use Rattle.sqlite.specs.Tree.{Trees}
use Rattle.sqlite.specs.Query.{Join, inner, left, end, matches}
use Rattle.sqlite.specs.Program.{overlay}
use Rattle.sqlite.specs.Effect.{Database, Reads}
use Rattle.sqlite.specs.Listing.{understood, reads_listing}
use Rattle.sqlite.specs.Command.TheVariants.{Select}
use Rattle.sqlite.proofs.Callers.{IsPlain, command_of}
use Rattle.sqlite_tied.specs.Compute.{everything}
use Rattle.sqlite_rules.specs.Lists.{Has}
use Rattle.sqlite_rules.proofs.ListLemmas.{has_filtered, has_kept}
use Rattle.sqlite_rules.proofs.ProbeLemmas.{has_mapped, mapped_has}
use Rattle.sqlite_trees.proofs.ListLemmas.{ascending_weaker}
use Rattle.world.specs.declared.entry.Place.{Place}
use Rattle.world.specs.declared.entry.Entry.{Entry}
use Rattle.world.specs.World.{World}
use Rattle.world.proofs.Orders.{places_total}
use Rattle.tables.specs.Fit.{place_in}
use Rattle.tables.specs.Means.{Tabulates, IsAccess}
use Rattle.tables.proofs.Ascending.{has_permuted, one_by_key}
use Rattle.tables.proofs.FitTests.{not_itself}
use Rattle.tables.proofs.JoinLemmas.{has_flat, flat_has}
use Rattle.tables.proofs.ListingLemmas.{listing, IsListing, is_listing, listed_rows, listed_in_order, place_columns}
use Rattle.tables.proofs.ListingLemmas.{by_place}
use Rattle.older.specs.declared.schema.Format.TheVariants.{One}
use Rattle.older.specs.Means.{IsShelf, IsWithBody, HasBody, is_numbered_as}
use Rattle.older.specs.Schemas.{schema_1}
use Rattle.older_rows.specs.declared.entries.EntryRows.{EntryRows}
use Rattle.older_rows.specs.Entries.{IsFitRow}
use Rattle.older_rows.specs.Entered.{HasEntries}
use Rattle.older_rows.specs.Registry.{HasRegistry}
use Rattle.older_rows.specs.Visits.{Visits}
use Rattle.older_rows.proofs.EntryLemmas.{Puts, InPlaces, Entered, all_entered, all_rise}

abbrev pub one_text : List ℕ
one_text = codes "SELECT v.shelf, v.path, v.version, v.time, v.mod, v.id, b.zip FROM version AS v LEFT JOIN body AS b ON b.id = v.id ORDER BY v.shelf, v.path, v.version"

abbrev pub one_columns : List Term
one_columns = col 1 2 ∷ col 1 3 ∷ col 1 4 ∷ col 1 5 ∷ col 1 6 ∷ col 1 0 ∷ col 2 2 ∷ []

abbrev pub one_names : List (List ℕ)
one_names = codes "shelf" ∷ codes "path" ∷ codes "version" ∷ codes "time" ∷ codes "mod" ∷ codes "id" ∷ codes "zip" ∷ []

abbrev pub by_number : List Term
by_number = op2 (Compare Eq Binary) (col 2 0) (col 1 0) ∷ []

abbrev pub with_body : Join
with_body = inner 6 (left 8 by_number end)

pub one_is : command_of (understood schema_1 one_text)
    ≡ Select (record { lets = []; body = listing with_body one_columns by_place }) one_names
unfolding understood everything
one_is = refl

pub one_plain : IsPlain (understood schema_1 one_text)
unfolding understood everything
one_plain = (refl, refl)

pub one_unlisted : reads_listing schema_1 one_text ≡ false
unfolding understood everything
one_unlisted = refl

-- what the query reads from a row and its body
abbrev shown : Row → Row → Row
shown row body = column row 2 ∷ column row 3 ∷ column row 4 ∷ column row 5 ∷ column row 6 ∷ column row 0 ∷ column body 2
    ∷ []

-- the bodies of a row, as the query finds them
abbrev pub goes_with : Row → Row → Bool
goes_with row body = list_all (holds ([] ∷ row ∷ body ∷ [])) by_number

abbrev pub bodies_of : Row → List Row → List Row
bodies_of row bodies = or_nulls (filter (goes_with row) bodies)

-- ---- a row of NULLs for a version without a body

some_body : (bodies : List Row) → (b : Row) × Has (or_nulls bodies) b
some_body [] = ([], inl refl)
some_body (b ∷ bodies) = (b, inl refl)

among : (bodies : List Row) (b : Row) → Has bodies b → Has (or_nulls bodies) b
among [] b there = absurd there
among (x ∷ bodies) b there = there

-- a body that has a zip is a row, and not the row of NULLs
is_body : (bodies : List Row) (b : Row) (zip : List ℕ) → Has (or_nulls bodies) b → column b 2 ≡ Blob zip → Has bodies b
is_body [] b zip (inl none) has = let never : ◌≡◌ {A = Value} Null (Blob zip) = sym (ap (λ (r : Row). column r 2) none)
    ∙ has in absurd (cc)
is_body [] b zip (inr none) has = absurd none
is_body (x ∷ bodies) b zip there has = there

-- ---- the rows that are shown

module _ (old : Database) (rows : List Row) (reads : Reads (command_of (understood schema_1 one_text)) old [] rows)
  where
    listed : IsListing (listing with_body one_columns by_place) (overlay old.trees []) rows
    listed =
        let read = subst (λ k. Reads k old [] rows) one_is reads in
        is_listing with_body one_columns by_place (overlay old.trees []) rows (read.answer Null)

    same : IsPermutation (mapped (eval_all one_columns) (matches (overlay old.trees []) [] with_body ([] ∷ []))) rows
    same = listed_rows with_body one_columns by_place (overlay old.trees []) rows listed

    sorted : InPlaces rows
    sorted = listed_in_order (listing with_body one_columns by_place) (overlay old.trees []) rows listed place_columns
        (λ env. refl)

    abbrev pairs_of : Row → List (List Row)
    pairs_of row = flat_map (λ b. ([] ∷ row ∷ b ∷ []) ∷ []) (bodies_of row (old.trees 8))

    -- a row that is shown is that of a version and of one of its bodies, or of NULLs
    record IsOf (s : Row) : Type 0 where
      row : Row
      body : Row
      there : Has (old.trees 6) row
      has : Has (bodies_of row (old.trees 8)) body
      is : s ≡ shown row body

    shown_of : (s : Row) → Has rows s → IsOf s
    shown_of s there =
        let e = has_mapped (eval_all one_columns) (matches (overlay old.trees []) [] with_body ([] ∷ [])) s
        (has_permuted _ rows s same there) in
        let row = flat_has pairs_of (old.trees 6) e.0 e.1 in
        let body = flat_has (λ b. ([] ∷ row.0 ∷ b ∷ []) ∷ []) (bodies_of row.0 (old.trees 8)) e.0 row.2 in
        let env : e.0 ≡ [] ∷ row.0 ∷ body.0 ∷ [] = elim body.2 [ inl here ↦ here | inr none ↦ absurd none ] in
        record { row = row.0; body = body.0; there = row.1; has = body.1; is = e.2 ∙ ap (eval_all one_columns) env }

    of_shown : (row body : Row) → Has (old.trees 6) row → Has (bodies_of row (old.trees 8)) body
        → Has rows (shown row body)
    of_shown row body there has =
        has_permuted rows _ (shown row body) (IsPermutation-sym _ _ same)
        (mapped_has (eval_all one_columns) (matches (overlay old.trees []) [] with_body ([] ∷ []))
        ([] ∷ row ∷ body ∷ [])
        (has_flat pairs_of (old.trees 6) row ([] ∷ row ∷ body ∷ []) there
        (has_flat (λ b. ([] ∷ row ∷ b ∷ []) ∷ []) (bodies_of row (old.trees 8)) body ([] ∷ row ∷ body ∷ []) has
        (inl refl))))

    module _ (start end : EntryRows) (db after : Trees) (own : start.format ≡ One) (new : start.last ≡ None)
        (visited : Visits Puts start db rows end after) where
      -- rows that show one place are one row
      one_row : (a b : Row) → Has rows a → Has rows b → place_in a ≡ place_in b → a ≡ b
      one_row = one_by_key place_in rows
          (ascending_weaker _ _ (λ a b less tie. not_itself places_total (place_in a) (place_in b) less tie) rows
          (all_rise rows sorted start end db after visited))

      -- the row of a body has the number of its version
      numbered : (row body : Row) → Has (filter (goes_with row) (old.trees 8)) body
          → Has (old.trees 8) body × (is_numbered_as body row ≡ true)
      numbered row body there = let it = has_filtered (goes_with row) (old.trees 8) body there in
          (it.0, (and_parts _ _ it.1).0)

      -- a version whose row is fit has a body, and each of its bodies holds the zip of the entry
      has_body : (row body : Row) (id : _) (q : Place) (e : Entry) → Has (old.trees 6) row
          → Has (bodies_of row (old.trees 8)) body → IsFitRow One (shown row body) id q e
          → HasBody (old.trees 8) row e.zip
      has_body row body id q e there has fits =
          let it = numbered row body (is_body _ body e.zip has fits.zip) in
          record {
            body = body;
            there = it.0;
            same = it.1;
            holds = λ other at number.
                let also = among _ other (has_kept (goes_with row) (old.trees 8) other at (and_from _ _ number refl)) in
                let alike = one_row (shown row other) (shown row body) (of_shown row other there also)
                (of_shown row body there has) refl in
                ap (λ (r : Row). column r 6) alike ∙ fits.zip;
          }

      entry_of : (row body : Row) (id : _) (q : Place) (e : Entry) → Has (old.trees 6) row
          → Has (bodies_of row (old.trees 8)) body → IsFitRow One (shown row body) id q e
          → IsWithBody (old.trees 8) row (q, e)
      entry_of row body id q e there has fits =
          let shows = fits.shows in
          record {
            place = (shows.shelf, shows.path, shows.version);
            time = shows.time;
            gomod = shows.gomod;
            zip =
                has_body row body id q e there has fits;
          }

      -- the rows of `version`, with their rows of `body`, are the entries of y
      entries_are : (x y : World) → Entered One x y after rows
          → Tabulates (IsWithBody (old.trees 8)) (old.trees 6) (λ it. map.get y.entries it.0 ≡ Some it.1)
      entries_are x y all = record {
        each = λ row there.
            let body = some_body (filter (goes_with row) (old.trees 8)) in
            let it = all.shows.each (shown row body.0) (of_shown row body.0 there body.1) in
            ((it.place, it.entry), entry_of row body.0 it.id it.place it.entry there body.1 it.fits, it.holds);
        found = λ it holds.
            let from = all.shows.entry it.0 it.1 holds in
            let of = shown_of from.0 from.1 in (
              of.row,
              of.there,
              entry_of of.row of.body from.2.0 it.0 it.1 of.there of.has
                  (subst (λ s. IsFitRow One s from.2.0 it.0 it.1) of.is from.2.1),
            );
      }

      -- the walk over the versions of schema 1 adds their entries to a world with the old shelves and keys
      pub has_entries : HasRegistry old.trees db → HasEntries One old.trees after
      has_entries was =
          let it = all_entered One rows sorted start end db after own new visited was.world was.is was.stands
          was.entries in
          let all = it.1 in
          record {
            world = it.0;
            is = all.is;
            shelves = subst (λ m. Tabulates IsShelf (old.trees 2) (λ it. map.get m it.0 ≡ Some it.1)) (sym all.shelves)
                was.shelves;
            keys = subst (λ m. Tabulates IsAccess (old.trees 4) (λ it. map.get m it.0 ≡ Some it.1)) (sym all.keys)
                was.keys;
            entries = entries_are was.world it.0 all;
            stands = all.stand;
          }
