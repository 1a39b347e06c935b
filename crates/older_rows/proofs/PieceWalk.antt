-- The rows of `piece` of schema 2.
use Rattle.std.proofs.Common.{◌≡◌, false, List, [], map as mapped, None, refl, sym, subst}
use Rattle.sqlite.specs.declared.types.Value.TheVariants.{Null}
use Rattle.sqlite.specs.Order.{Row}
use Rattle.sqlite.specs.Tree.{Trees}
use Rattle.sqlite.specs.Query.{inner, end}
use Rattle.sqlite.specs.Program.{overlay}
use Rattle.sqlite.specs.Effect.{Database, Reads}
use Rattle.sqlite.specs.Listing.{understood, reads_listing}
use Rattle.sqlite.specs.Command.TheVariants.{Select}
use Rattle.sqlite.proofs.Callers.{IsPlain, command_of}
use Rattle.sqlite_tied.specs.Compute.{everything}
use Rattle.tables.specs.Fit.{ArePiecesFit, piece_shown}
use Rattle.tables.specs.Schema.{store_schema}
use Rattle.tables.proofs.ListingLemmas.{listing, is_listing, piece_columns, piece_names, by_piece, piece_rows}
use Rattle.tables.proofs.ListingLemmas.{rows_listed}
use Rattle.tables.proofs.PieceTests.{pieces_true}
use Rattle.tables.proofs.Texts.{piece_rows_text}
use Rattle.older.specs.declared.schema.Format.TheVariants.{Two}
use Rattle.older.specs.Schemas.{schema_2}
use Rattle.older_rows.specs.declared.pieces.ZipRows.{ZipRows}
use Rattle.older_rows.specs.Entered.{PutsZips}
use Rattle.older_rows.specs.Visits.{Visits}
use Rattle.older_rows.proofs.EndLemmas.{has_all}
use Rattle.older_rows.proofs.ZipLemmas.{Puts, tested, passed, else_same, same_pieces_read, pieces_permuted}

pub piece_is : command_of (understood schema_2 piece_rows_text)
    ≡ Select (record { lets = []; body = listing (inner 8 end) piece_columns by_piece }) piece_names
unfolding understood everything
piece_is = refl

pub piece_plain : IsPlain (understood schema_2 piece_rows_text)
unfolding understood everything
piece_plain = (refl, refl)

pub piece_unlisted : reads_listing schema_2 piece_rows_text ≡ false
unfolding understood everything
piece_unlisted = refl

-- the old trees as a database of today's schema
abbrev today : Trees → Database
today trees = record { schema = store_schema; trees = trees }

-- the query reads from the old trees, as a database of today's schema, what it reads from the old tables
read_today : (old : Database) (rows : List Row) → Reads (command_of (understood schema_2 piece_rows_text)) old [] rows
    → Reads (command_of (understood store_schema piece_rows_text)) (today old.trees) [] rows
unfolding understood everything
read_today old rows reads =
    let read = subst (λ k. Reads k old [] rows) piece_is reads in
    subst (λ k. Reads k (today old.trees) [] rows) (sym piece_rows.is) (record { typed = refl; answer = read.answer })

module _ (old : Database) (rows : List Row)
    (reads : Reads (command_of (understood schema_2 piece_rows_text)) old [] rows)
    (start stop : ZipRows) (db after : Trees) (new : start.last ≡ None) (visited : Visits Puts start db rows stop after)
  where
    -- the walk tests the pieces as today's test does, so they are fit
    fit : ArePiecesFit (mapped piece_shown (old.trees 8))
    fit = pieces_true (today old.trees) (tested start) (tested stop) new
        (rows, read_today old rows reads, passed start stop db after rows visited)

    pub puts_zips : PutsZips Two old.trees db after
    puts_zips was sound =
        let read = subst (λ k. Reads k old [] rows) piece_is reads in
        let listed = rows_listed piece_rows old.trees rows
        (is_listing (inner 8 end) piece_columns by_piece (overlay old.trees []) rows (read.answer Null)) in
        let same = same_pieces_read old.trees db after start stop rows listed was.entries.1 visited in
        has_all old.trees db after was sound (else_same start stop db after rows visited) same
        (pieces_permuted _ _ same fit)
