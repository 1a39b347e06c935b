-- The rows of `version` of schema 2.
use Rattle.std.proofs.Common.{◌≡◌, ◌∙◌, ℕ, false, List, [], ◌∷◌, codes, map as mapped, length, None, Some, inl, refl}
use Rattle.std.proofs.Common.{sym, ap, subst, arith, IsPermutation}
use Rattle.std.specs.FinMap as map
use Rattle.std.proofs.lemmas.List.Sorted.{IsPermutation-sym}
use Rattle.sqlite.specs.declared.types.Value.TheVariants.{Null}
use Rattle.sqlite.specs.Order.{Row, column}
use Rattle.sqlite.specs.Term.{Term, col}
use Rattle.sqlite.specs.Tree.{Trees}
use Rattle.sqlite.specs.Query.{inner, end}
use Rattle.sqlite.specs.Program.{overlay}
use Rattle.sqlite.specs.Effect.{Database, Reads}
use Rattle.sqlite.specs.Listing.{understood, reads_listing}
use Rattle.sqlite.specs.Command.TheVariants.{Select}
use Rattle.sqlite.proofs.Callers.{IsPlain, command_of}
use Rattle.sqlite_tied.specs.Compute.{everything}
use Rattle.sqlite_rules.specs.Lists.{Has}
use Rattle.sqlite_rules.proofs.ListLemmas.{has_kept}
use Rattle.sqlite_rules.proofs.ProbeLemmas.{has_mapped, mapped_has}
use Rattle.world.specs.World.{World}
use Rattle.tables.specs.Means.{Tabulates, IsAccess, is_of}
use Rattle.tables.specs.Pieces.{HasPiece}
use Rattle.tables.proofs.Ascending.{has_permuted}
use Rattle.tables.proofs.ListingLemmas.{listing, IsListing, is_listing, listed_rows, of_table, listed_in_order}
use Rattle.tables.proofs.ListingLemmas.{by_place, place_columns}
use Rattle.tables.proofs.SoundLemmas.{piece_version}
use Rattle.statements.specs.Added.{version_row}
use Rattle.statements.specs.Rows.{version_read}
use Rattle.older.specs.declared.schema.Format.TheVariants.{Two}
use Rattle.older.specs.Schemas.{schema_2}
use Rattle.older.specs.Means.{IsShelf}
use Rattle.older_rows.specs.declared.entries.EntryRows.{EntryRows}
use Rattle.older_rows.specs.Entered.{AreAlike, HasEntries}
use Rattle.older_rows.specs.Registry.{HasRegistry}
use Rattle.older_rows.specs.Visits.{Visits}
use Rattle.older_rows.proofs.EntryLemmas.{Puts, InPlaces, Entered, all_entered, IsIn}

abbrev pub two_text : List ℕ
two_text = codes "SELECT shelf, path, version, time, mod, id, order_key, rank_key FROM version ORDER BY shelf, path, version"

abbrev pub two_columns : List Term
two_columns = col 1 2 ∷ col 1 3 ∷ col 1 4 ∷ col 1 5 ∷ col 1 6 ∷ col 1 0 ∷ col 1 7 ∷ col 1 8 ∷ []

abbrev pub two_names : List (List ℕ)
two_names = codes "shelf" ∷ codes "path" ∷ codes "version" ∷ codes "time" ∷ codes "mod" ∷ codes "id" ∷ codes "order_key"
    ∷ codes "rank_key" ∷ []

pub two_is : command_of (understood schema_2 two_text)
    ≡ Select (record { lets = []; body = listing (inner 6 end) two_columns by_place }) two_names
unfolding understood everything
two_is = refl

pub two_plain : IsPlain (understood schema_2 two_text)
unfolding understood everything
two_plain = (refl, refl)

pub two_unlisted : reads_listing schema_2 two_text ≡ false
unfolding understood everything
two_unlisted = refl

-- what the query reads from a row
abbrev shown : Row → Row
shown row = column row 2 ∷ column row 3 ∷ column row 4 ∷ column row 5 ∷ column row 6 ∷ column row 0 ∷ column row 7
    ∷ column row 8 ∷ []

none_there : (rows : List Row) → ((row : Row) → Has rows row → ⊥) → rows ≡ []
none_there [] none = refl
none_there (row ∷ rows) none = absurd (none row (inl refl))

module _ (old : Database) (rows : List Row) (reads : Reads (command_of (understood schema_2 two_text)) old [] rows)
  where
    listed : IsListing (listing (inner 6 end) two_columns by_place) (overlay old.trees []) rows
    listed =
        let read = subst (λ k. Reads k old [] rows) two_is reads in
        is_listing (inner 6 end) two_columns by_place (overlay old.trees []) rows (read.answer Null)

    same : IsPermutation (mapped shown (old.trees 6)) rows
    same = subst (λ l. IsPermutation l rows) (of_table 6 two_columns (overlay old.trees []))
        (listed_rows (inner 6 end) two_columns by_place (overlay old.trees []) rows listed)

    sorted : InPlaces rows
    sorted = listed_in_order (listing (inner 6 end) two_columns by_place) (overlay old.trees []) rows listed
        place_columns
        (λ env. refl)

    module _ (start end : EntryRows) (db after : Trees) (own : start.format ≡ Two) (new : start.last ≡ None)
        (visited : Visits Puts start db rows end after) where
      module _ (x y : World) (all : Entered Two x y after rows) where
        -- the fresh rows of `version` show what the old ones show
        alike : AreAlike version_read (old.trees 6) (after 6)
        alike = record {
          there = λ row there.
              let it = all.shows.each (shown row)
              (has_permuted rows (mapped shown (old.trees 6)) (shown row) (IsPermutation-sym _ _ same)
              (mapped_has shown (old.trees 6) row there)) in
              (version_row it.id it.place it.entry, it.there, version_was (shown row) row refl it);
          back = λ other there.
              let from = all.shows.version other there in
              let row = has_mapped shown (old.trees 6) from.0
              (has_permuted (mapped shown (old.trees 6)) rows from.0 same from.1) in
              (row.0, row.1, ap version_read from.2.1 ∙ version_was from.0 row.0 row.2 from.2.0);
        }
          where
            version_was : (s row : Row) (is : s ≡ shown row) (it : IsIn Two y after s)
                → version_read (version_row it.id it.place it.entry) ≡ version_read row
            version_was s row is it =
                let shows = it.fits.shows in
                let keys = it.keys in
                let at = λ (n : ℕ). ap (λ (r : Row). column r n) is in
                λ i. sym (sym (at 5) ∙ it.fits.number) i ∷ sym (sym (at 0) ∙ shows.shelf) i
                ∷ sym (sym (at 1) ∙ shows.path) i ∷ sym (sym (at 2) ∙ shows.version) i
                ∷ sym (sym (at 3) ∙ shows.time) i ∷ sym (sym (at 4) ∙ shows.gomod) i ∷ sym (sym (at 6) ∙ keys.0) i
                ∷ sym (sym (at 7) ∙ keys.1) i ∷ []

        -- no row of `piece` is there, because each zip is empty so far
        no_piece : after 8 ≡ []
        no_piece = none_there (after 8) (λ b there.
            let v = piece_version after all.stand.sound b there in
            let it = all.stand.means.entries.each v.0 v.1 in
            let from = all.shows.entry it.0.0 it.0.1 it.2 in
            let n = it.1.zip.each b (has_kept (is_of v.0) (after 8) b there v.2) in
            let has : HasPiece it.0.1.zip n.0 = n.2 in
            let none : length it.0.1.zip ≡ 0 = ap length from.2.1.zip in
            omega (arith, has, none))

      -- the walk over the versions of schema 2 adds their entries, without zips, to a world with the old shelves and
      -- keys
      pub has_entries : HasRegistry old.trees db → HasEntries Two old.trees after
      has_entries was =
          let it = all_entered Two rows sorted start end db after own new visited was.world was.is was.stands
          was.entries in
          let all = it.1 in
          record {
            world = it.0;
            is = all.is;
            shelves = subst (λ m. Tabulates IsShelf (old.trees 2) (λ it. map.get m it.0 ≡ Some it.1)) (sym all.shelves)
                was.shelves;
            keys = subst (λ m. Tabulates IsAccess (old.trees 4) (λ it. map.get m it.0 ≡ Some it.1)) (sym all.keys)
                was.keys;
            entries = (alike was.world it.0 all, no_piece was.world it.0 all);
            stands = all.stand;
          }
