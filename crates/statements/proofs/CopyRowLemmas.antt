-- Copies of the rows of versions, and of the pieces of their zips.
use Rattle.std.proofs.Common.{◌≡◌, ◌++◌, ℕ, ℤ, true, not, List, [], ◌∷◌, Ok, inl, inr, refl, sym, ap, subst, ◌∙◌}
use Rattle.std.proofs.Common.{true≢false}
use Rattle.std.proofs.lemmas.Bool.{and_parts, and_from}
use Rattle.sqlite.specs.declared.types.Value.TheVariants.{Int, Text, Blob}
use Rattle.sqlite.specs.Collation.TheVariants.{Binary}
use Rattle.sqlite_sql.specs.declared.ops.BinaryOp.TheVariants.{Compare}
use Rattle.sqlite_sql.specs.declared.ops.CompareOp.TheVariants.{Eq}
use Rattle.sqlite_sql.specs.Ops.{is_null}
use Rattle.sqlite.specs.Order.{Row, column}
use Rattle.sqlite.specs.Tree.{Trees, rowid}
use Rattle.sqlite.specs.Term.{Term, col, op2}
use Rattle.sqlite.specs.Edit.{put_all, are_fresh}
use Rattle.sqlite.specs.Query.{Query}
use Rattle.sqlite.specs.Effect.{Database, Reads, ReadsFirst}
use Rattle.sqlite.specs.Listing.{understood}
use Rattle.sqlite.specs.State.{State, ExecutesInside}
use Rattle.sqlite.proofs.Callers.{IsPlain, command_of}
use Rattle.sqlite_value.specs.Keys.{plain, first_key}
use Rattle.sqlite_schema.specs.Rules.{equal, differ, clashes}
use Rattle.sqlite_schema.specs.declared.schema.Constraint.TheVariants.{Unique}
use Rattle.sqlite_catalog.specs.Listing.{IsSound}
use Rattle.sqlite_rules.specs.Lists.{Has}
use Rattle.sqlite_rules.proofs.ListLemmas.{all_from, some_from, has_filtered, has_kept}
use Rattle.sqlite_rules.proofs.RuleLemmas.{keeps_at}
use Rattle.sqlite_rules.proofs.TableLemmas.{put_all_has, put_all_keeps, put_all_adds}
use Rattle.world.specs.declared.entry.Place.{Place}
use Rattle.world.specs.declared.entry.Heading.{Heading}
use Rattle.world.specs.World.{World, heading_of}
use Rattle.tables.specs.Schema.{store_schema, version_table, piece_table}
use Rattle.tables.specs.Means.{Means, IsAt, IsEachPlaceOnce, IsEachPieceOnce, is_of}
use Rattle.tables.specs.Walks.{Pass}
use Rattle.tables.proofs.ValueLemmas.{equals_text, equals_itself, equals_own, fresh_before}
use Rattle.tables.proofs.FitTests.{at_index}
use Rattle.statements.specs.Lookup.{lookup}
use Rattle.statements.specs.Pairs.{pairs}
use Rattle.statements.specs.Rows.{Filling, PutsPiece, piece_of, piece_read, AddsRows, PutsRows, PutsVersion, version_of}
use Rattle.statements.specs.Rows.{version_read}
use Rattle.statements.specs.Extract.{ShowsVersion, IsVersionShown, CopiesVersions, CopiesPieces, Along}
use Rattle.statements.proofs.DifferLemmas.{differ_is}
use Rattle.statements.proofs.LookupLemmas.{asks, all_found, begun_found}
use Rattle.statements.proofs.PairLemmas.{all_paired}
use Rattle.statements.proofs.RowLemmas.{adds_one, adds_as, puts_along}
use Rattle.statements.proofs.TabulateLemmas.{put_apart}
use Rattle.statements.proofs.AddEntryLemmas.{version_insert, version_params, version_put}

-- ---- the query of versions

abbrev by_shelf : List Term
by_shelf = op2 (Compare Eq Binary) (col 1 2) (col 0 0) ∷ []

abbrev version_shown : List Term
version_shown = col 1 0 ∷ col 1 2 ∷ col 1 3 ∷ col 1 4 ∷ col 1 5 ∷ col 1 6 ∷ col 1 7 ∷ col 1 8 ∷ []

abbrev pub versions_on_query : Query
versions_on_query = lookup 6 by_shelf version_shown

-- each row that the query of versions shows is that of a version
pub versions_fit : (shelf : List ℕ) (db : Database) (w : World) (rows : List Row) (row : Row) → Means db.trees w
    → ReadsFirst (asks versions_on_query) db (Text shelf ∷ []) (rows ++ row ∷ []) → IsVersionShown row
versions_fit shelf db w rows row means first =
    let begun = begun_found (Text shelf ∷ []) db 6 by_shelf version_shown [] (λ _. refl) (rows ++ row ∷ []) first in
    let from = begun.1.sound row (at_index rows begun.0 row) in
    let it = means.entries.each from.0 from.1 in
    let shows : ShowsVersion (version_read from.0) it.0.0 (heading_of it.0.1) = record {
      shelf = it.1.place.0;
      path = it.1.place.1;
      version = it.1.place.2;
      time = it.1.time;
      gomod = it.1.gomod;
      order = it.1.keys.order;
      rank = it.1.keys.rank;
    } in
    (it.0.0, heading_of it.0.1, subst (λ r. ShowsVersion r it.0.0 (heading_of it.0.1)) (sym from.3) shows)

-- ---- the query of pieces

abbrev on_shelf : List Term
on_shelf = op2 (Compare Eq Binary) (col 2 1) (col 1 0) ∷ op2 (Compare Eq Binary) (col 1 2) (col 0 0) ∷ []

abbrev piece_shown : List Term
piece_shown = col 2 1 ∷ col 2 2 ∷ col 2 3 ∷ []

abbrev pub pieces_on_query : Query
pieces_on_query = pairs 6 8 on_shelf piece_shown

-- ---- a row of a version that was put in

-- an INSERT of the values of a version inside a transaction puts in the row of `version` with these values
pub version_copied : (sql : List ℕ) → command_of (understood store_schema sql) ≡ version_insert
    → IsPlain (understood store_schema sql)
    → (old new : State) (values : Row) (id : ℤ) (p : Place) (h : Heading) (count : ℕ) → column values 0 ≡ Int id
    → ShowsVersion values p h → Filling old
    → ExecutesInside 0 sql (version_params (Rattle.std.proofs.Common.Some id) p
    (record { gomod = h.gomod; zip = []; time = h.time })) old new (Ok count)
    → PutsVersion values old.now.trees new.now.trees × Filling new
version_copied sql is bare old new values id p h count first shows filling ran =
    let it = version_put sql is bare (Rattle.std.proofs.Common.Some id) p
    (record { gomod = h.gomod; zip = []; time = h.time }) old new count filling ran in (
      record {
        id = id;
        number = first;
        put = rw (first, shows.shelf, shows.path, shows.version, shows.time, shows.gomod, shows.order, shows.rank) it.0;
        sound = it.2.sound;
      },
      it.2,
    )

-- ---- unique rows

-- a row with the place of another, and another number, breaks the rule of the unique place
place_alone : (after : Trees) → IsSound store_schema after → (new other : Row) (q : Place) → Has (after 6) new
    → Has (after 6) other → IsAt new q → IsAt other q → differ (rowid other) (rowid new) ≡ true → ⊥
unfolding first_key
place_alone after sound new other q here there at also apart =
    let obeyed = keeps_at Unique store_schema after version_table new (sound.obeys.rules Unique)
    (inr (inr (inr (inl refl)))) here in
    let alone : not (clashes plain (2 ∷ 3 ∷ 4 ∷ []) (after 6) new) ≡ true = (and_parts _ _ obeyed).0 in
    let one : equal Binary (column other 2) (column new 2) ≡ true = rw (at.0, also.0) (equals_itself q.shelf) in
    let two : equal Binary (column other 3) (column new 3) ≡ true = rw (at.1, also.1) (equals_itself q.path) in
    let three : equal Binary (column other 4) (column new 4) ≡ true = rw (at.2, also.2) (equals_itself q.version) in
    let clash : clashes plain (2 ∷ 3 ∷ 4 ∷ []) (after 6) new ≡ true =
    some_from _ (after 6) other there
    (and_from _ _ (and_from _ _ one (and_from _ _ two (and_from _ _ three refl))) apart) in
    true≢false (sym alone ∙ ap not clash)

-- a row with the version and the piece number of another, and another number of its own, breaks the rule of the unique
-- piece
piece_alone : (after : Trees) → IsSound store_schema after → (new other : Row) (version number : ℤ) → Has (after 8) new
    → Has (after 8) other → column new 1 ≡ Int version → column new 2 ≡ Int number
    → column new 1 ≡ column other 1 → column new 2 ≡ column other 2 → differ (rowid other) (rowid new) ≡ true → ⊥
unfolding first_key
piece_alone after sound new other version number here there of_version numbered same also apart =
    let obeyed = keeps_at Unique store_schema after piece_table new (sound.obeys.rules Unique)
    (inr (inr (inr (inr (inl refl))))) here in
    let alone : not (clashes plain (1 ∷ 2 ∷ []) (after 8) new) ≡ true = (and_parts _ _ obeyed).0 in
    let one : equal Binary (column other 1) (column new 1) ≡ true =
    rw (← same, of_version) (equals_own (Int version) refl) in
    let two : equal Binary (column other 2) (column new 2) ≡ true =
    rw (← also, numbered) (equals_own (Int number) refl) in
    let clash : clashes plain (1 ∷ 2 ∷ []) (after 8) new ≡ true =
    some_from _ (after 8) other there (and_from _ _ (and_from _ _ one (and_from _ _ two refl)) apart) in
    true≢false (sym alone ∙ ap not clash)

-- if all rows have numbers, and one more has a number, all of them have
numbers_more : (rows : List Row) (id : ℤ) (new : Row) → rowid new ≡ Int id
    → ((row : Row) → Has rows row → (n : ℤ) × (rowid row ≡ Int n))
    → (row : Row) → Has (put_all rows (new ∷ [])) row → (n : ℤ) × (rowid row ≡ Int n)
numbers_more rows id new is numbers row h = elim (put_all_has (new ∷ []) rows row h) [
  | inl (inl same) ↦ (id, ap rowid same ∙ is)
  | inl (inr none) ↦ absurd none
  | inr was ↦ numbers row was
]

other_number : (rows : List Row) (id : ℤ) (new : Row) → rowid new ≡ Int id → are_fresh rows (new ∷ []) ≡ true
    → (row : Row) → Has rows row → (n : ℤ) × (rowid row ≡ Int n) → differ (rowid row) (rowid new) ≡ true
other_number rows id new is fresh row there it =
    rw is (differ_is (rowid row) (Int id) (ap is_null it.1) refl ∙ ap not (fresh_before id new rows is fresh row there))

-- the values that the row of a version is put in with
abbrev version_cut : Row → Row
version_cut values = version_read (version_of values)

abbrev piece_cut : Row → Row
piece_cut values = column values 0 ∷ column values 1 ∷ column values 2 ∷ []

-- a row of `version` that is put in adds what is read from it, and keeps places unique and the other tables as they
-- were
version_puts : (values : Row) (db after : Trees) → PutsVersion values db after
    → PutsRows version_table version_read IsEachPlaceOnce (λ read. read ≡ version_cut values) db after
version_puts values db after put =
    let new = version_of values in
    let here : Has (after 6) new = rw put.put.rows (put_all_adds (new ∷ []) (db 6) new put.put.fresh (inl refl)) in
    let still = λ (r : Row) (there : Has (db 6) r).
    subst (λ l. Has l r) (sym put.put.rows) (put_all_keeps (new ∷ []) (db 6) r put.put.fresh there) in
    record {
      rows = subst (AddsRows version_read (λ read. read ≡ version_cut values) (db 6)) (sym put.put.rows)
          (adds_one version_read (db 6) new put.put.fresh);
      apart = λ apart. record {
        numbers = subst (λ l. (row : Row) → Has l row → (n : ℤ) × (rowid row ≡ Int n)) (sym put.put.rows)
            (numbers_more (db 6) put.id new put.number apart.numbers);
        once = subst IsEachPlaceOnce (sym put.put.rows)
            (put_apart (λ a b. (q : Place) → IsAt a q → IsAt b q → ⊥) (λ a b other q ofb ofa. other q ofa ofb) new
            (db 6)
            (all_from _ (db 6) (λ r there q at also. place_alone after put.sound new r q here (still r there)
            at also (other_number (db 6) put.id new put.number put.put.fresh r there (apart.numbers r there))))
            apart.once);
      };
      tables = put.put.tables;
    }

-- a row of `piece` that is put in adds what is read from it, and keeps pieces unique and the other tables as they were
piece_puts : (values : Row) (db after : Trees) → PutsPiece values db after
    → PutsRows piece_table piece_read IsEachPieceOnce (λ read. read ≡ piece_cut values) db after
piece_puts values db after put =
    let new = piece_of put.id values in
    let here : Has (after 8) new = rw put.put.rows (put_all_adds (new ∷ []) (db 8) new put.put.fresh (inl refl)) in
    let still = λ (r : Row) (there : Has (db 8) r).
    subst (λ l. Has l r) (sym put.put.rows) (put_all_keeps (new ∷ []) (db 8) r put.put.fresh there) in
    record {
      rows = subst (AddsRows piece_read (λ read. read ≡ piece_cut values) (db 8)) (sym put.put.rows)
          (adds_one piece_read (db 8) new put.put.fresh);
      apart = λ apart. record {
        numbers = subst (λ l. (row : Row) → Has l row → (n : ℤ) × (rowid row ≡ Int n)) (sym put.put.rows)
            (numbers_more (db 8) put.id new refl apart.numbers);
        once = subst IsEachPieceOnce (sym put.put.rows)
            (put_apart (λ a b. column a 1 ≡ column b 1 → column a 2 ≡ column b 2 → ⊥)
            (λ a b other one two. other (sym one) (sym two)) new (db 8)
            (all_from _ (db 8) (λ r there one two.
            piece_alone after put.sound new r put.version put.number here (still r there) put.of_version
            put.numbered one two
            (other_number (db 8) put.id new refl put.put.fresh r there (apart.numbers r there)))) apart.once);
      };
      tables = put.put.tables;
    }

-- if each row that is put in does P, rows put in one after another do P along the list
passed_along : {X : Type 0} (Fits : X → Row → Type 0) (Puts : Row → X → X → Type 0) (P : Row → X → X → X → Type 0)
    → ((row : Row) (w x y : X) → Puts row x y → P row w x y)
    → (rows : List Row) (w x z : X) → Pass Fits (λ x row y. Puts row x y) x rows z → Along P rows w x z
passed_along Fits Puts P each [] w x z passed = sym passed
passed_along Fits Puts P each (row ∷ rows) w x z passed =
    (passed.1, each row w x passed.1 passed.2, passed_along Fits Puts P each rows w passed.1 z passed.3)

-- ---- the copies

-- if each row that the query of versions shows is put in, the versions on the shelf are copied
pub versions_copied : (shelf : List ℕ) (db : Database) (fresh after : Trees) (rows : List Row)
    → Reads (asks versions_on_query) db (Text shelf ∷ []) rows
    → Pass (λ _ row. IsVersionShown row) (λ t row u. PutsVersion row t u) fresh rows after
    → CopiesVersions shelf db.trees fresh after
versions_copied shelf db fresh after rows read passed =
    let found = all_found (Text shelf ∷ []) db 6 by_shelf version_shown [] (λ _. refl) rows read in
    let puts = puts_along version_table version_read IsEachPlaceOnce (λ row _ values. values ≡ version_cut row) rows
    fresh fresh after
    (passed_along (λ _ row. IsVersionShown row) PutsVersion _ (λ row _. version_puts row) rows fresh fresh after
    passed) in
    record {
      rows = adds_as version_read _ _ (fresh 6) (after 6)
          (λ values it.
          let from = found.sound it.0 it.1 in
          let is : values ≡ version_read from.0 = it.2 ∙ ap version_cut from.3 in (
            (from.0, from.1, is),
            ap (λ (r : Row). column r 1) is
                ∙ equals_text (column from.0 2) shelf (and_parts _ _ from.2).0,
          ))
          (λ values on.
          let from = on.0 in
          let at : column from.0 2 ≡ Text shelf = sym (ap (λ (r : Row). column r 1) from.2) ∙ on.1 in (
            version_read from.0,
            found.complete from.0 from.1
                (and_from _ _ (ap (λ v. equal Binary v (Text shelf)) at ∙ equals_itself shelf) refl),
            from.2,
          ))
          puts.rows;
      apart = puts.apart;
      tables = puts.tables;
    }

-- if each row that the query of pieces shows is put in, the pieces of the zips on the shelf are copied
pub pieces_copied : (Fits : Trees → Row → Type 0) (shelf : List ℕ) (db : Database) (fresh after : Trees)
    (rows : List Row) → Reads (asks pieces_on_query) db (Text shelf ∷ []) rows
    → Pass Fits (λ t row u. PutsPiece row t u) fresh rows after → CopiesPieces shelf db.trees fresh after
pieces_copied Fits shelf db fresh after rows read passed =
    let found = all_paired (Text shelf ∷ []) db 6 8 on_shelf piece_shown (λ _. refl) (λ _. refl) rows read in
    let puts = puts_along piece_table piece_read IsEachPieceOnce (λ row _ values. values ≡ piece_cut row) rows fresh
    fresh after
    (passed_along Fits PutsPiece _ (λ row _. piece_puts row) rows fresh fresh after passed) in
    record {
      rows = adds_as piece_read _ _ (fresh 8) (after 8)
          (λ values it.
          let from = found.sound it.0 it.1 in
          let sides = and_parts _ _ from.4 in (
            from.0,
            from.2,
            equals_text (column from.0 2) shelf (and_parts _ _ sides.1).0,
            (from.1, has_kept (is_of from.0) (db.trees 8) from.1 from.3 sides.0, it.2 ∙ ap piece_cut from.5),
          ))
          (λ values on.
          let passed = has_filtered (is_of on.0) (db.trees 8) on.3.0 on.3.1 in (
            piece_read on.3.0,
            found.complete on.0 on.3.0 on.1 passed.0
                (and_from _ _ passed.1 (and_from _ _ (ap (λ v. equal Binary v (Text shelf)) on.2 ∙ equals_itself shelf)
                refl)),
            on.3.2,
          ))
          puts.rows;
      apart = puts.apart;
      tables = puts.tables;
    }

-- a piece that was put in by its values is put in as its row showed it
pub piece_as_shown : (row : Row) (db after : Trees) (version number : ℤ) (bytes : List ℕ) → column row 0 ≡ Int version
    → column row 1 ≡ Int number → column row 2 ≡ Blob bytes
    → PutsPiece (Int version ∷ Int number ∷ Blob bytes ∷ []) db after → PutsPiece row db after
piece_as_shown row db after version number bytes one two three put = record {
  id = put.id;
  version = version;
  number = number;
  of_version = one;
  numbered = two;
  put = rw (one, two, three) put.put;
  sound = put.sound;
}
