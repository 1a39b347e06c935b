-- What the tables mean once the rows of the entries are put in.
use Rattle.std.proofs.Common.{◌≡◌, ◌∙◌, ℕ, true, List, map as mapped, filter, Some, sym, ap, subst, arith}
use Rattle.std.proofs.Common.{IsPermutation}
use Rattle.std.specs.FinMap as map
use Rattle.std.proofs.lemmas.List.Sorted.{IsPermutation-sym}
use Rattle.sqlite.specs.Collation.TheVariants.{Binary}
use Rattle.sqlite.specs.Order.{Row, column}
use Rattle.sqlite.specs.Tree.{Trees, rowid}
use Rattle.sqlite_catalog.specs.Listing.{IsSound}
use Rattle.sqlite_schema.specs.Rules.{equal}
use Rattle.sqlite_rules.proofs.ProbeLemmas.{has_mapped, mapped_has}
use Rattle.world.specs.declared.entry.Place.{Place}
use Rattle.world.specs.declared.entry.Entry.{Entry}
use Rattle.world.specs.World.{World}
use Rattle.world.proofs.Orders.{texts_total, texts_exact}
use Rattle.tables.specs.Fit.{AreFit, ArePiecesFit, piece_shown}
use Rattle.tables.specs.Means.{Means as Today, Tabulates, IsShelf as IsShelfToday, IsAccess, IsVersion, ArePieces}
use Rattle.tables.specs.Means.{is_of}
use Rattle.tables.specs.Schema.{store_schema, piece_table}
use Rattle.tables.proofs.Ascending.{has_permuted}
use Rattle.tables.proofs.OneWorld.{carried, same_got, one_access, one_shelf}
use Rattle.tables.proofs.WorldFits.{world_fits}
use Rattle.tables.proofs.WorldOf.{world_of, fit_means, fit_world}
use Rattle.statements.specs.Rows.{IsElseSame, version_read, piece_read}
use Rattle.statements.proofs.RowLemmas.{of_as, same_pieces}
use Rattle.older.specs.declared.schema.Format.TheVariants.{One, Two}
use Rattle.older.specs.Means.{IsShelf}
use Rattle.older_rows.specs.Entered.{AreAlike, HasEntries, PutsZips, HasAll}

-- in schema 1 nothing remains to be put in, because the zips came with their versions
pub zips_came : (old db : Trees) → PutsZips One old db db
zips_came old db was sound =
    record {
      world = was.world;
      is = was.is;
      shelves = was.shelves;
      keys = was.keys;
      entries = was.entries;
      stands =
          was.stands;
    }

-- two tables are alike if what is read from one is, in some order, what is read from the other
pub alike : (read : Row → Row) (rows others : List Row) → IsPermutation (mapped read rows) (mapped read others)
    → AreAlike read rows others
alike read rows others same = record {
  there = λ row at. let it =
      has_mapped read others _
      (has_permuted (mapped read others) (mapped read rows) (read row) (IsPermutation-sym _ _ same)
      (mapped_has read rows row at)) in (it.0, it.1, sym it.2);
  back = λ other at. let it =
      has_mapped read rows _ (has_permuted (mapped read rows) (mapped read others) (read other) same
      (mapped_has read others other at)) in (it.0, it.1, it.2);
}

-- ---- the zips of schema 2

module _ (old db after : Trees) (was : HasEntries Two old db) (sound : IsSound store_schema after)
    (else_same : IsElseSame piece_table db after)
    (pieces : IsPermutation (mapped piece_shown (old 8)) (mapped piece_shown (after 8)))
    (fit : ArePiecesFit (mapped piece_shown (after 8))) where
  meta_stays : after 0 ≡ db 0
  meta_stays = else_same.0 (λ e. omega (arith, e))

  shelf_stays : after 2 ≡ db 2
  shelf_stays = else_same.1.0 (λ e. omega (arith, e))

  access_stays : after 4 ≡ db 4
  access_stays = else_same.1.1.0 (λ e. omega (arith, e))

  version_stays : after 6 ≡ db 6
  version_stays = else_same.1.1.1.0 (λ e. omega (arith, e))

  -- the tables fit: those from before do, and so do the pieces
  fits : AreFit after
  fits =
      let before = world_fits db was.world was.stands.sound was.stands.means was.is in
      record {
        named = rw meta_stays before.named;
        shelves = rw shelf_stays before.shelves;
        access = rw access_stays before.access;
        numbers = rw access_stays before.numbers;
        entries = rw version_stays before.entries;
        pieces = fit;
      }

  abbrev w : World
  w = world_of after

  means : Today after w
  means = fit_means after sound fits

  -- ---- the registry is as it was

  shelves_then : Tabulates IsShelfToday (db 2) (λ it. map.get w.shelves it.0 ≡ Some it.1)
  shelves_then = subst (λ l. Tabulates IsShelfToday l (λ it. map.get w.shelves it.0 ≡ Some it.1)) shelf_stays
      means.shelves

  access_then : Tabulates IsAccess (db 4) (λ it. map.get w.keys it.0 ≡ Some it.1)
  access_then = subst (λ l. Tabulates IsAccess l (λ it. map.get w.keys it.0 ≡ Some it.1)) access_stays means.access

  shelves_same : was.world.shelves ≡ w.shelves
  shelves_same = map.same_map texts_total texts_exact was.world.shelves w.shelves
      (λ s. same_got was.world.shelves w.shelves s
      (λ o. carried IsShelfToday (db 2) (λ it. map.get was.world.shelves it.0 ≡ Some it.1)
      (λ it. map.get w.shelves it.0 ≡ Some it.1) one_shelf was.stands.means.shelves shelves_then (s, o))
      (λ o. carried IsShelfToday (db 2) (λ it. map.get w.shelves it.0 ≡ Some it.1)
      (λ it. map.get was.world.shelves it.0 ≡ Some it.1) one_shelf shelves_then was.stands.means.shelves (s, o)))

  keys_same : was.world.keys ≡ w.keys
  keys_same = map.same_map texts_total texts_exact was.world.keys w.keys (λ k. same_got was.world.keys w.keys k
      (λ h. carried IsAccess (db 4) (λ it. map.get was.world.keys it.0 ≡ Some it.1)
      (λ it. map.get w.keys it.0 ≡ Some it.1) one_access was.stands.means.access access_then (k, h))
      (λ h. carried IsAccess (db 4) (λ it. map.get w.keys it.0 ≡ Some it.1)
      (λ it. map.get was.world.keys it.0 ≡ Some it.1) one_access access_then was.stands.means.access (k, h)))

  -- ---- the entries are those of the old tables

  versions : AreAlike version_read (old 6) (after 6)
  versions = subst (λ l. AreAlike version_read (old 6) l) (sym version_stays) was.entries.0

  read : AreAlike piece_read (old 8) (after 8)
  read = alike piece_read (old 8) (after 8) pieces

  of_number : (one two piece : Row) → rowid two ≡ rowid one → is_of two piece ≡ true → is_of one piece ≡ true
  of_number one two piece number is = ap (λ v. equal Binary (column piece 1) v) (sym number) ∙ is

  pieces_then : (row other : Row) (zip : List ℕ) → rowid other ≡ rowid row
      → ArePieces (filter (is_of other) (after 8)) zip → ArePieces (filter (is_of row) (old 8)) zip
  pieces_then row other zip number are = same_pieces other row (after 8) (old 8) zip
      (λ b here tied. let a = read.there b here in
      (a.0, a.1, of_as other a.0 b a.2 (of_number other row b (sym number) tied), sym a.2))
      (λ a here tied. let b = read.back a here in
      (b.0, b.1, of_number row other b.0 number (of_as other b.0 a (sym b.2) tied), sym b.2))
      are

  entry_then : (row other : Row) (it : Place × Entry) → version_read other ≡ version_read row
      → IsVersion (after 8) other it → IsVersion (old 8) row it
  entry_then row other it same is = record {
    place = (
      sym (ap (λ (r : Row). column r 1) same) ∙ is.place.0,
      sym (ap (λ (r : Row). column r 2) same)
          ∙ is.place.1,
      sym (ap (λ (r : Row). column r 3) same) ∙ is.place.2,
    );
    time = sym (ap (λ (r : Row). column r 4) same) ∙ is.time;
    gomod = sym (ap (λ (r : Row). column r 5) same) ∙ is.gomod;
    keys = record {
      order = sym (ap (λ (r : Row). column r 6) same)
          ∙ is.keys.order;
      rank = sym (ap (λ (r : Row). column r 7) same) ∙ is.keys.rank;
    };
    zip = pieces_then row other it.1.zip (ap (λ (r : Row). column r 0) same) is.zip;
  }

  -- the old rows of `version`, with their old pieces, are the entries of the world of the fresh tables
  entries_are : Tabulates (IsVersion (old 8)) (old 6) (λ it. map.get w.entries it.0 ≡ Some it.1)
  entries_are = record {
    each = λ row there.
        let other = versions.there row there in
        let it = means.entries.each other.0 other.1 in
        (it.0, entry_then row other.0 it.0 other.2 it.1, it.2);
    found = λ it holds.
        let other = means.entries.found it holds in
        let row = versions.back other.0 other.1 in
        (row.0, row.1, entry_then row.0 other.0 it row.2 other.2);
  }

  pub has_all : HasAll Two old after
  has_all = record {
    world = w;
    is = fit_world after sound fits;
    shelves = subst (λ m. Tabulates IsShelf (old 2) (λ it. map.get m it.0 ≡ Some it.1)) shelves_same was.shelves;
    keys = subst (λ m. Tabulates IsAccess (old 4) (λ it. map.get m it.0 ≡ Some it.1)) keys_same was.keys;
    entries = entries_are;
    stands = record { sound = sound; means = means };
  }
