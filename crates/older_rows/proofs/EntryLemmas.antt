-- The rows of `version` in the order of their places, put into a store that has no entry.
use Rattle.std.proofs.Common.{◌≡◌, ◌≤◌, ◌+◌, ◌++◌, ◌∙◌, ℕ, ℤ, Bool, true, false, cond, List, [], ◌∷◌, Option, Some}
use Rattle.std.proofs.Common.{None, is_some}
use Rattle.std.proofs.Common.{inl, inr, refl, sym, ap, subst, arith, append_assoc, append-nil, Less}
use Rattle.std.specs.Prelude.{bytes_eq, ◌&&◌}
use Rattle.std.specs.FinMap as map
use Rattle.std.specs.Ordering.{is_lt}
use Rattle.sqlite.specs.declared.types.Value.TheVariants.{Int}
use Rattle.sqlite.specs.Order.{Row, column}
use Rattle.sqlite.specs.Query.{key_cmp}
use Rattle.sqlite.specs.Collation.TheVariants.{Binary}
use Rattle.sqlite.specs.Edit.{put_all, are_fresh}
use Rattle.sqlite.specs.Tree.{Trees}
use Rattle.sqlite_value.specs.Keys.{ascending}
use Rattle.sqlite_trees.specs.Tree.{IsAscending}
use Rattle.sqlite_catalog.specs.Listing.{IsSound}
use Rattle.sqlite_rules.specs.Lists.{Has}
use Rattle.sqlite_rules.proofs.ListLemmas.{has_left, has_right, has_either}
use Rattle.sqlite_rules.proofs.TableLemmas.{put_all_has, put_all_keeps, put_all_adds}
use Rattle.modver.specs.SemanticVersion.{SemanticVersion, version_text}
use Rattle.modver.proofs.Readings.{version-of}
use Rattle.world.specs.declared.entry.Place.{Place}
use Rattle.world.specs.declared.entry.Entry.{Entry}
use Rattle.world.specs.EntryTest.{fitting_version}
use Rattle.world.specs.World.{World, IsWorld, place as place_of, place_cmp, version_limit, count, with_entry}
use Rattle.world.proofs.OnlyCommon.{none_retained}
use Rattle.world.proofs.Orders.{places_total, places_exact, get_put}
use Rattle.world.proofs.Retained.{stays, goes}
use Rattle.world.proofs.Sound.{entry_added, at_most_one_more}
use Rattle.tables.specs.Fit.{text_in, place_in, is_on}
use Rattle.tables.specs.Means.{StandFor}
use Rattle.tables.specs.Schema.{store_schema}
use Rattle.tables.specs.Walks.{Pass, MayFollow, run_with}
use Rattle.tables.proofs.Ascending.{Adjacent, adjacent_both, adjacent_among, ascends, across, apart_below, filter_push}
use Rattle.tables.proofs.EntryTests.{fitting_some}
use Rattle.tables.proofs.FitTests.{IsPlaced, places_in_order, may_differ, pass_each, not_itself}
use Rattle.tables.proofs.ListingLemmas.{place_columns}
use Rattle.tables.proofs.Maps.{put_keeps, put_splits, none_in_empty}
use Rattle.tables.proofs.OneWorld.{texts_same}
use Rattle.tables.proofs.RunLemmas.{is_on_itself, adjacent_apart, many_on, many_more, push_on, few_in_all}
use Rattle.tables.proofs.SoundLemmas.{version_shelf}
use Rattle.tables.proofs.WorldOf.{held_text}
use Rattle.statements.specs.Added.{HasAdded, version_row}
use Rattle.statements.proofs.TransactionLemmas.{entry_means}
use Rattle.older.specs.declared.schema.Format.{Format}
use Rattle.older_rows.specs.declared.entries.EntryRows.{EntryRows}
use Rattle.older_rows.specs.Entries.{ShowsEntry, ShowsZip, ShowsKeys, IsFitRow, PutsEntry}
use Rattle.older_rows.specs.Visits.{Visits}

abbrev pub Puts : EntryRows → Row → Trees → EntryRows → Trees → Type 0
Puts so_far row db next after = (next.format ≡ so_far.format)
    × PutsEntry so_far.format so_far.last so_far.many row db after next.last next.many

-- ---- places

-- a row shows one place
pub place_is : (row : Row) (q : Place) (e : Entry) → ShowsEntry row q e → place_in row ≡ q
place_is row q e shows = λ i.
    record { shelf = text_in (shows.shelf i); path = text_in (shows.path i); version = text_in (shows.version i) }

placed : (row : Row) (q : Place) (e : Entry) → ShowsEntry row q e → IsPlaced row
placed row q e shows = (
  held_text (column row 0) q.shelf shows.shelf,
  held_text (column row 1) q.path shows.path,
  held_text (column row 2) q.version shows.version,
)

-- a row that shows an entry that may stand, its zip and its number is fit
pub fit_row : (format : Format) (row : Row) (id : ℤ) (s p v zip : List ℕ) (e : Entry) (x : SemanticVersion)
    → ShowsZip format row zip → ShowsEntry row (place_of s p v) e × (e.zip ≡ zip) → Some x ≡ fitting_version p v e
    → column row 5 ≡ Int id
    → (version_text x ≡ v) × IsFitRow format row id (place_of s p v) e
fit_row format row id s p v zip e x shows_zip shows fits number =
    let it = fitting_some p v e x fits in (
      ((version-of v x).0 it.1).same,
      record {
        shows = shows.0;
        number = number;
        zip = subst (ShowsZip format row) (sym shows.1) shows_zip;
        may = it.0 s;
      },
    )

-- ---- the rows, as a walk that tests them

abbrev Fits : EntryRows → Row → Type 0
Fits x row = IsPlaced row × MayFollow x.last x.many (place_in row)

abbrev Keeps : EntryRows → Row → EntryRows → Type 0
Keeps x row next = (next.last ≡ Some (place_in row)) × (next.many ≡ run_with x.last x.many (place_in row))

-- rows that are visited pass the test of a walk: each shows a place that may follow the last one
passed : (so_far : EntryRows) (db : Trees) (rows : List Row) (end : EntryRows) (after : Trees)
    → Visits Puts so_far db rows end after → Pass Fits Keeps so_far rows end
passed so_far db [] end after same = same.0
passed so_far db (row ∷ rows) end after visited =
    let it = visited.2.1 in
    let at = sym (place_is row it.place it.entry it.fits.shows) in (
      (placed row it.place it.entry it.fits.shows, subst (MayFollow so_far.last so_far.many) at it.follows),
      visited.0,
      (it.last_is ∙ ap Some at, it.many_is ∙ ap (run_with so_far.last so_far.many) at),
      passed visited.0 visited.1 rows end after visited.3,
    )

abbrev pub Rises : List Row → Type 0
Rises = IsAscending (λ a b. place_cmp (place_in a) (place_in b) ≡ Less)

abbrev pub InPlaces : List Row → Type 0
InPlaces = Adjacent (λ a b.
    is_lt (key_cmp 0 (ascending Binary ∷ ascending Binary ∷ ascending Binary ∷ []) (place_columns b) (place_columns a))
    ≡ false)

module _ (start end : EntryRows) (rows : List Row) (sorted : InPlaces rows) (p : Pass Fits Keeps start rows end) where
  rise : Rises rows
  rise =
      let apart = adjacent_apart Fits Keeps (λ (x : EntryRows). x.last) place_in (λ x row next keeps. keeps.0)
      (λ x row fits. may_differ x.last x.many (place_in row) fits.1) start rows end p in
      let each = λ (r : Row) (there : Has rows r). (pass_each Fits Keeps start rows end p r there).1.0 in
      let upto =
      adjacent_among _ (λ a b. is_lt (place_cmp (place_in b) (place_in a)) ≡ false) rows
      (λ a b here there h. ap is_lt (sym (places_in_order b a (each b there) (each a here))) ∙ h) sorted in
      ascends (λ a b. place_cmp (place_in a) (place_in b) ≡ Less)
      (λ a b c. places_total.trans (place_in a) (place_in b) (place_in c)) rows
      (adjacent_both _ _ _ (λ a b upto apart.
      apart_below places_total places_exact (place_in a) (place_in b) upto apart) rows upto apart)

  few : start.last ≡ None → (s p : List ℕ) → many_on s p rows ≤ version_limit
  few new = few_in_all Fits Keeps (λ (x : EntryRows). x.last) (λ (x : EntryRows). x.many) (λ x row next keeps. keeps)
      (λ x row fits. fits.1) start rows end new rise p

-- if all rows are visited, their places rise
pub all_rise : (rows : List Row) → InPlaces rows → (start end : EntryRows) (db after : Trees)
    → Visits Puts start db rows end after → Rises rows
all_rise rows sorted start end db after visited = rise start end rows sorted (passed start db rows end after visited)

-- ---- the tables and the world, row by row

-- a row shows an entry of the world, and the tables have the row of `version` of that entry
pub record IsIn (format : Format) (x : World) (db : Trees) (row : Row) : Type 0 where
  pub id : ℤ
  pub place : Place
  pub entry : Entry
  pub fits : IsFitRow format row id place entry
  pub keys : ShowsKeys format row place.version
  pub holds : map.get x.entries place ≡ Some entry
  pub there : Has (db 6) (version_row id place entry)

-- the entries of a world, and the rows of `version`, are those that the rows so far show
pub record Shows (format : Format) (x : World) (db : Trees) (done : List Row) : Type 0 where
  pub each : (row : Row) → Has done row → IsIn format x db row
  pub entry : (q : Place) (e : Entry) → map.get x.entries q ≡ Some e
      → (row : Row) × Has done row × ((id : ℤ) × IsFitRow format row id q e)
  pub version : (r : Row) → Has (db 6) r
      → (row : Row) × Has done row × ((it : IsIn format x db row) × (r ≡ version_row it.id it.place it.entry))
  pub counted : (s p : List ℕ) → count x s p ≤ many_on s p done

-- one more entry adds at most one to the versions of its path on its shelf, and nothing to those of others
count_more : (x : World) (q : Place) (e : Entry) (s p : List ℕ)
    → count (with_entry x q e) s p ≤ count x s p + cond (is_on s p q) 1 0
count_more x q e s p =
    let test : Place → Bool = λ r. bytes_eq r.shelf s && bytes_eq r.path p in
    elim (test q) as (λ b. test q ≡ b → count (with_entry x q e) s p ≤ count x s p + cond b 1 0) [
      | true ↦ λ passes.
          let grown : count (with_entry x q e) s p
          ≡ cond (map.contains_key (map.retain_keys x.entries test) q) (count x s p) (count x s p + 1) =
          ap map.len (stays places_total places_exact test x.entries q e passes)
          ∙ map.len-insert places_total (map.retain_keys x.entries test) q e in
          let most = at_most_one_more (map.contains_key (map.retain_keys x.entries test) q) (count x s p) in
          let it : count (with_entry x q e) s p ≤ count x s p + 1 = omega (arith, grown, most) in
          it
      | false ↦ λ fails.
          let same : count (with_entry x q e) s p ≡ count x s p =
          ap map.len (goes places_total places_exact test x.entries q e fails) in
          let it : count (with_entry x q e) s p ≤ count x s p + 0 = omega (arith, same) in
          it
    ] refl

many_push : (s p : List ℕ) (done : List Row) (row : Row)
    → many_on s p (done ++ row ∷ []) ≡ many_on s p done + cond (is_on s p (place_in row)) 1 0
many_push s p done row = filter_push (λ r. is_on s p (place_in r)) done row

-- the shelf of an entry exists, because the tables obey the schema
shelf_there : (after : Trees) (y : World) → StandFor after y → (q : Place) (e : Entry) → map.get y.entries q ≡ Some e
    → map.contains_key y.shelves q.shelf ≡ true
shelf_there after y stand q e at =
    let row = stand.means.entries.found (q, e) at in
    let shelf = version_shelf after stand.sound row.0 row.1 q.shelf row.2.place.0 in
    let it = stand.means.shelves.each shelf.0 shelf.1 in
    let name : q.shelf ≡ it.0.0 = texts_same (column shelf.0 1) it.0.0 q.shelf it.1.0 shelf.2 in
    ap (map.contains_key y.shelves) name ∙ ap is_some it.2

module _ (format : Format) (x : World) (db after : Trees) (done : List Row) (row : Row) (rows : List Row)
    (up : Rises (done ++ row ∷ rows)) (small : (s p : List ℕ) → many_on s p (done ++ row ∷ rows) ≤ version_limit)
    (is : IsWorld x) (stand : StandFor db x) (shows : Shows format x db done) (id : ℤ) (q : Place) (e : Entry)
    (fits : IsFitRow format row id q e) (keys : ShowsKeys format row q.version) (adds : HasAdded (Some id) db after q e)
    (sound : IsSound store_schema after) where
  abbrev next : World
  next = with_entry x q e

  at : place_in row ≡ q
  at = place_is row q e fits.shows

  -- no row before it shows its place
  free : map.get x.entries q ≡ None
  free = go (map.get x.entries q) refl
    where
      go : (o : Option Entry) → map.get x.entries q ≡ o → o ≡ None
      go None none = refl
      go (Some d) was =
          let it = shows.entry q d was in
          let below = across _ done (row ∷ rows) up it.0 row it.1 (inl refl) in
          absurd (not_itself places_total (place_in it.0) (place_in row) below
          (place_is it.0 q d it.2.1.shows ∙ sym at))

  pub next_stands : StandFor after next
  next_stands = record { sound = sound; means = entry_means x q e free (Some id) db after stand.sound adds stand.means }

  -- the world with the entry of the next row is a world
  pub next_is : IsWorld next
  next_is = entry_added x q e is (record {
    stands = shelf_there after next next_stands q e (get_put places_total x.entries q e);
    free = free;
    room =
        let was = shows.counted q.shelf q.path in
        let one = push_on q.shelf q.path done row (ap (is_on q.shelf q.path) at ∙ is_on_itself q) in
        let more = many_more q.shelf q.path (done ++ row ∷ []) rows in
        let most = subst (λ l. many_on q.shelf q.path l ≤ version_limit) (sym (append_assoc done (row ∷ []) rows))
        (small q.shelf q.path) in
        omega (arith, was, one, more, most);
    entry = fits.may;
  })

  -- the row of `version` that was put in
  abbrev new : Row
  new = version_row id q e

  rows_are : after 6 ≡ put_all (db 6) (new ∷ [])
  rows_are =
      adds.zip.tables.1.1.1.0 (λ f. omega (arith, f))
      ∙ (adds.version.rows ∙ ap (λ n. put_all (db 6) (version_row n q e ∷ [])) adds.is_given)

  is_fresh : are_fresh (db 6) (new ∷ []) ≡ true
  is_fresh = ap (λ n. are_fresh (db 6) (version_row n q e ∷ [])) (sym adds.is_given) ∙ adds.version.fresh

  stays_there : (r : Row) → Has (db 6) r → Has (after 6) r
  stays_there r there = subst (λ l. Has l r) (sym rows_are) (put_all_keeps (new ∷ []) (db 6) r is_fresh there)

  new_row : Has (after 6) new
  new_row = subst (λ l. Has l new) (sym rows_are) (put_all_adds (new ∷ []) (db 6) new is_fresh (inl refl))

  still : (r : Row) → IsIn format x db r → IsIn format next after r
  still r it =
      record {
        id = it.id;
        place = it.place;
        entry = it.entry;
        fits = it.fits;
        keys = it.keys;
        holds = put_keeps places_total places_exact x.entries q e free it.place it.entry it.holds;
        there = stays_there _ it.there;
      }

  own : IsIn format next after row
  own = record {
    id = id;
    place = q;
    entry = e;
    fits = fits;
    keys = keys;
    holds = get_put places_total x.entries q e;
    there = new_row;
  }

  -- the entries of the next world, and the rows of `version`, are those that the rows up to this one show
  pub next_shows : Shows format next after (done ++ row ∷ [])
  unfolding own still
  next_shows = record {
    each = λ r there. elim (has_either done (row ∷ []) r there) [
      | inl before ↦ still r (shows.each r before)
      | inr (inl here) ↦ subst (IsIn format next after) (sym here) own
      | inr (inr none) ↦ absurd none
    ];
    entry = λ p d holds. elim (put_splits places_total places_exact x.entries q e (p, d) holds) [
      | inl here ↦ (
        row,
        has_right done (row ∷ []) row (inl refl),
        (id, subst (λ (it : Place × Entry). IsFitRow format row id it.0 it.1) (sym here) fits),
      )
      | inr before ↦ (let it = shows.entry p d before in (it.0, has_left done (row ∷ []) it.0 it.1, it.2))
    ];
    version = λ r there. elim (put_all_has (new ∷ []) (db 6) r (subst (λ l. Has l r) rows_are there)) [
      | inl (inl same) ↦ (row, has_right done (row ∷ []) row (inl refl), (own, same))
      | inl (inr none) ↦ absurd none
      | inr was ↦ (let it = shows.version r was in
          (it.0, has_left done (row ∷ []) it.0 it.1, (still it.0 it.2.0, it.2.1)))
    ];
    counted = λ s p.
        let was = shows.counted s p in
        let more = count_more x q e s p in
        let push = many_push s p done row ∙ ap (λ r. many_on s p done + cond (is_on s p r) 1 0) at in
        omega (arith, was, more, push);
  }

-- y is the world x with the entries that the rows show, and the tables stand for it
pub record Entered (format : Format) (x y : World) (after : Trees) (rows : List Row) : Type 0 where
  pub is : IsWorld y
  pub stand : StandFor after y
  pub keys : y.keys ≡ x.keys
  pub shelves : y.shelves ≡ x.shelves
  pub shows : Shows format y after rows

-- if the rows that remain are visited, the tables come to stand for a world with the entries of all rows
entered : (format : Format) (done rows : List Row) → Rises (done ++ rows)
    → ((s p : List ℕ) → many_on s p (done ++ rows) ≤ version_limit)
    → (so_far end : EntryRows) (db after : Trees) → so_far.format ≡ format → Visits Puts so_far db rows end after
    → (x : World) → IsWorld x → StandFor db x → Shows format x db done
    → (y : World) × Entered format x y after (done ++ rows)
entered format done [] up small so_far end db after own same x is stand shows =
    let all = append-nil done in (
      x,
      record {
        is = is;
        stand = subst (λ t. StandFor t x) (sym same.1) stand;
        keys = refl;
        shelves = refl;
        shows = subst (λ l. Shows format x after l) (sym all) (subst (λ t. Shows format x t done) (sym same.1) shows);
      },
    )
entered format done (row ∷ rows) up small so_far end db after own visited x is stand shows =
    let put = visited.2.1 in
    let fits : IsFitRow format row put.id put.place put.entry =
    subst (λ f. IsFitRow f row put.id put.place put.entry) own put.fits in
    let keys : ShowsKeys format row put.place.version = subst (λ f. ShowsKeys f row put.place.version) own put.keys in
    let mid = visited.1 in
    let assoc = append_assoc done (row ∷ []) rows in
    let rest = entered format (done ++ row ∷ []) rows (subst Rises (sym assoc) up)
    (λ s p. subst (λ l. many_on s p l ≤ version_limit) (sym assoc) (small s p)) visited.0 end mid after
    (visited.2.0 ∙ own) visited.3
    (with_entry x put.place put.entry)
    (next_is format x db mid done row rows up small is stand shows put.id put.place put.entry fits keys put.adds
    put.sound)
    (next_stands format x db mid done row rows up small is stand shows put.id put.place put.entry fits keys put.adds
    put.sound)
    (next_shows format x db mid done row rows up small is stand shows put.id put.place put.entry fits keys put.adds
    put.sound) in
    let it = rest.1 in (
      rest.0,
      record {
        is = it.is;
        stand = it.stand;
        keys = it.keys;
        shelves = it.shelves;
        shows =
            subst (λ l. Shows format rest.0 after l) assoc it.shows;
      },
    )

-- if all rows are visited in the order of their places, tables without entries come to stand for a world with the
-- rows' entries
pub all_entered : (format : Format) (rows : List Row) → InPlaces rows → (start end : EntryRows) (db after : Trees)
    → start.format ≡ format → start.last ≡ None → Visits Puts start db rows end after
    → (x : World) → IsWorld x → StandFor db x → x.entries ≡ map.empty → (y : World) × Entered format x y after rows
all_entered format rows sorted start end db after own new visited x is stand none =
    let pass = passed start db rows end after visited in
    entered format [] rows (rise start end rows sorted pass) (few start end rows sorted pass new) start end db after own
    visited x is stand (record {
      each = λ row there. absurd there;
      entry = λ q e at. absurd (none_in_empty place_cmp q e (ap (λ m. map.get m q) (sym none) ∙ at));
      version = λ r there. absurd
          (let it = stand.means.entries.each r there in
          none_in_empty place_cmp it.0.0 it.0.1 (ap (λ m. map.get m it.0.0) (sym none) ∙ it.2));
      counted = λ s p. let e = ap (λ m. map.len (map.retain_keys m (λ q. bytes_eq q.shelf s && bytes_eq q.path p))) none
          ∙ none_retained (λ q. bytes_eq q.shelf s && bytes_eq q.path p) in omega (arith, e);
    })
