-- What the fresh store holds of a world, from row to row.
use Rattle.std.proofs.Common.{
  ◌≡◌,
  ◌+◌,
  ℕ,
  ℤ,
  Bool,
  true,
  false,
  not,
  cond,
  List,
  [],
  ◌∷◌,
  Option,
  Some,
  None,
  is_some,
  MatchOption,
  inl,
  inr,
  refl,
  sym,
  ap,
  subst,
  ◌∙◌,
  arith,
  true≢false,
}
use Rattle.std.proofs.lemmas.Bool.{and_parts, and_from}
use Rattle.std.specs.FinMap as map
use Rattle.std.specs.FinSet as set
use Rattle.sqlite.specs.declared.types.Value.TheVariants.{Int}
use Rattle.sqlite.specs.Collation.TheVariants.{Binary}
use Rattle.sqlite.specs.Order.{Row, column}
use Rattle.sqlite.specs.Edit.{put_all, are_fresh}
use Rattle.sqlite.specs.State.{State}
use Rattle.sqlite.specs.Tree.{Trees, rowid}
use Rattle.sqlite_sql.specs.Ops.{is_null}
use Rattle.sqlite_value.specs.Keys.{plain, first_key}
use Rattle.sqlite_schema.specs.Rules.{equal, differ, clashes}
use Rattle.sqlite_schema.specs.declared.schema.Constraint.TheVariants.{Unique}
use Rattle.sqlite_catalog.specs.Listing.{IsSound}
use Rattle.sqlite_rules.specs.Lists.{Has}
use Rattle.sqlite_rules.proofs.ListLemmas.{some_from}
use Rattle.sqlite_rules.proofs.RuleLemmas.{keeps_at}
use Rattle.sqlite_rules.proofs.TableLemmas.{put_all_has, put_all_keeps, put_all_adds}
use Rattle.world.specs.declared.entry.Place.{Place}
use Rattle.world.specs.declared.entry.Entry.{Entry}
use Rattle.world.specs.World.{World, place_cmp, with_entry}
use Rattle.world.proofs.Orders.{places_total, places_exact}
use Rattle.tables.specs.Inserted.{Inserted}
use Rattle.tables.specs.Means.{Means, IsAt}
use Rattle.tables.specs.Schema.{store_schema, version_table}
use Rattle.tables.proofs.Maps.{none_in_empty, put_splits}
use Rattle.tables.proofs.ValueLemmas.{equals_itself, fresh_before}
use Rattle.statements.specs.Added.{AddsZip, AddsUpTo, HasAdded, version_row}
use Rattle.statements.specs.Reading.{IsZip}
use Rattle.statements.specs.Rows.{Filling, Writing, PutsVersion}
use Rattle.statements.proofs.AddZipLemmas.{adds_nothing}
use Rattle.statements.proofs.DifferLemmas.{differ_is}
use Rattle.statements.proofs.RowLemmas.{writing_of}
use Rattle.statements.proofs.TransactionLemmas.{entry_means}
use Rattle.interleave.specs.Interleave.{IsSince}
use Rattle.slices.specs.Slices.{Lacks, AreNumbered, HoldsAllBut, HoldsPart, HoldsUpTo, IsVersionIn}
use Rattle.slices.specs.declared.cursor.Cursor.{Cursor}
use Rattle.slices.specs.declared.cursor.Part.{Part}
use Rattle.slices.specs.declared.versions.Version.{Version}
use Rattle.slices.proofs.SubsetLemmas.{same_of}

-- ---- the whole world

-- a world that lacks no entry of w is w
pub lacks_none : (w x : World) → Lacks w x 0 → x ≡ w
lacks_none w x lacks =
    let long : map.len w.entries ≡ map.len x.entries = let l = lacks.count in omega (arith, l) in
    let entries : x.entries ≡ w.entries = same_of places_total places_exact x.entries w.entries long lacks.entries in
    λ i. record { keys = lacks.keys i; shelves = lacks.shelves i; entries = entries i }

pub whole : (w : World) (s : State) → HoldsAllBut w 0 s → Writing s w
whole w s holds = subst (Writing s) (lacks_none w holds.x holds.lacks) holds.writing

-- ---- what w has

module _ (w later : World) (newcomers : set.FinSet place_cmp) (since : IsSince w later newcomers) where
  pub was_there : (q : Place) (e : Entry) → set.contains newcomers q ≡ false → map.get later.entries q ≡ Some e
      → map.get w.entries q ≡ Some e
  was_there q e old at = since.entries q ∙ (ap (λ b. cond b None (map.get later.entries q)) old ∙ at)

  pub still_there : (q : Place) (e f : Entry) → map.get w.entries q ≡ Some e → map.get later.entries q ≡ Some f → f ≡ e
  still_there q e f one two = go (set.contains newcomers q) (since.entries q)
    where
      go : (b : Bool) → map.get w.entries q ≡ cond b None (map.get later.entries q) → f ≡ e
      go true is = absurd (let none : ◌≡◌ {A = Option Entry} (Some e) None = sym one ∙ is in cc)
      go false is = let same : ◌≡◌ {A = Option Entry} (Some f) (Some e) = sym two ∙ (sym is ∙ one) in cc

-- ---- a row of a version

-- a row with the place of another, and another number, breaks the rule of the unique place
place_alone : (after : Trees) → IsSound store_schema after → (new other : Row) (q : Place) → Has (after 6) new
    → Has (after 6) other → IsAt new q → IsAt other q → differ (rowid other) (rowid new) ≡ true → ⊥
unfolding first_key
place_alone after sound new other q here there at also apart =
    let obeyed = keeps_at Unique store_schema after version_table new (sound.obeys.rules Unique)
    (inr (inr (inr (inl refl)))) here in
    let alone : not (clashes plain (2 ∷ 3 ∷ 4 ∷ []) (after 6) new) ≡ true = (and_parts _ _ obeyed).0 in
    let one : equal Binary (column other 2) (column new 2) ≡ true = rw (at.0, also.0) (equals_itself q.shelf) in
    let two : equal Binary (column other 3) (column new 3) ≡ true = rw (at.1, also.1) (equals_itself q.path) in
    let three : equal Binary (column other 4) (column new 4) ≡ true = rw (at.2, also.2) (equals_itself q.version) in
    let clash : clashes plain (2 ∷ 3 ∷ 4 ∷ []) (after 6) new ≡ true =
    some_from _ (after 6) other there
    (and_from _ _ (and_from _ _ one (and_from _ _ two (and_from _ _ three refl))) apart) in
    true≢false (sym alone ∙ ap not clash)

module _ (rows : List Row) (id : ℤ) (new : Row) (is : rowid new ≡ Int id) (numbered : AreNumbered rows) where
  other_number : are_fresh rows (new ∷ []) ≡ true → (row : Row) → Has rows row → differ (rowid row) (rowid new) ≡ true
  other_number fresh row there =
      rw is (differ_is (rowid row) (Int id) (ap is_null (numbered row there).1) refl
      ∙ ap not (fresh_before id new rows is fresh row there))

  one_more_number : AreNumbered (put_all rows (new ∷ []))
  one_more_number row h = elim (put_all_has (new ∷ []) rows row h) [
    | inl (inl same) ↦ (id, ap rowid same ∙ is)
    | inl (inr none) ↦ absurd none
    | inr was ↦ numbered row was
  ]

-- the world lacks the entry whose row was put in
was_free : (db after : Trees) (x : World) (id : ℤ) (q : Place) (e : Entry) → Means db x → AreNumbered (db 6)
    → Inserted db after version_table (version_row id q e)
    → IsSound store_schema after → map.get x.entries q ≡ None
was_free db after x id q e means numbered put sound = go (map.get x.entries q) refl
  where
    new : Row
    new = version_row id q e

    go : (o : Option Entry) → map.get x.entries q ≡ o → o ≡ None
    go None is = refl
    go (Some f) is =
        let row = means.entries.found (q, f) is in
        let here : Has (after 6) (version_row id q e) =
        subst (λ l. Has l (version_row id q e)) (sym put.rows)
        (put_all_adds (version_row id q e ∷ []) (db 6) (version_row id q e) put.fresh (inl refl)) in
        let there : Has (after 6) row.0 =
        subst (λ l. Has l row.0) (sym put.rows)
        (put_all_keeps (version_row id q e ∷ []) (db 6) row.0 put.fresh row.1) in
        absurd (place_alone after sound (version_row id q e) row.0 q here there (refl, refl, refl) row.2.place
        (other_number (db 6) id (version_row id q e) refl numbered put.fresh row.0 row.1))

-- once the row of a version is put in that w had, all pieces of its zip are left
pub begins : (w later : World) (newcomers : set.FinSet place_cmp) → IsSince w later newcomers
    → (source : Trees) (v : Version) → IsVersionIn source later v
    → set.contains newcomers v.place ≡ false → (left : ℕ) (a b : State) → HoldsAllBut w left a
    → PutsVersion v.row a.now.trees b.now.trees → Filling b
    → (part : HoldsPart w left v.place v.id 0 b) × IsZip source v.id part.entry.zip
begins w later newcomers since source v is old left a b holds puts filling =
    let put : Inserted a.now.trees b.now.trees version_table (version_row v.id v.place is.entry) =
    rw (
      is.number,
      is.shows.shelf,
      is.shows.path,
      is.shows.version,
      is.shows.time,
      is.shows.gomod,
      is.shows.order,
      is.shows.rank,
    ) at puts.put in (
      record {
        x = holds.x;
        lacks = holds.lacks;
        db = a.now.trees;
        stands = holds.writing.trees;
        numbered = holds.numbered;
        entry = is.entry;
        there = was_there w later newcomers since v.place is.entry old is.there;
        free = was_free a.now.trees b.now.trees holds.x v.id v.place is.entry holds.writing.trees.means holds.numbered
            put puts.sound;
        mid = b.now.trees;
        version = put;
        zip = adds_nothing v.id is.entry.zip b.now.trees;
        filling = filling;
      },
      is.zip,
    )

-- more pieces are put in
pub continues : (w : World) (left : ℕ) (q : Place) (id : ℤ) (n m : ℕ) (a b : State) → (part : HoldsPart w left q id n a)
    → AddsUpTo id part.entry.zip m part.mid b.now.trees → Filling b → HoldsPart w left q id m b
continues w left q id n m a b part zip filling = record {
  x = part.x;
  lacks = part.lacks;
  db = part.db;
  stands = part.stands;
  numbered = part.numbered;
  entry = part.entry;
  there = part.there;
  free = part.free;
  mid = part.mid;
  version = part.version;
  zip = zip;
  filling = filling;
}

-- once all pieces are put in, one entry less is left
pub ends : (w : World) (left less : ℕ) → left ≡ less + 1 → (q : Place) (id : ℤ) (n : ℕ) (a b : State)
    → (part : HoldsPart w left q id n a)
    → AddsZip id part.entry.zip part.mid b.now.trees → Filling b → HoldsAllBut w less b
ends w left less is q id n a b part zip filling =
    let x = part.x in
    let e = part.entry in
    let added : HasAdded (Some id) part.db b.now.trees q e =
    record { id = id; is_given = refl; mid = part.mid; version = part.version; zip = zip } in
    let means = entry_means x q e part.free (Some id) part.db b.now.trees part.stands.sound added part.stands.means in
    let rows : b.now.trees 6 ≡ put_all (part.db 6) (version_row id q e ∷ []) =
    zip.tables.1.1.1.0 (λ f. omega (arith, f)) ∙ part.version.rows in
    let grown : map.len (map.insert x.entries q e) ≡ map.len x.entries + 1 = map.len-insert places_total x.entries q e
    ∙ ap (λ (g : Option Entry). cond (is_some g) (map.len x.entries) (map.len x.entries + 1)) part.free in
    record {
      x = with_entry x q e;
      lacks = record {
        shelves = part.lacks.shelves;
        keys = part.lacks.keys;
        entries = λ r f h. elim (put_splits places_total places_exact x.entries q e (r, f) h) [
          | inl same ↦ ap (map.get w.entries) (ap (λ (it : Place × Entry). it.0) same)
              ∙ (part.there ∙ ap Some (sym (ap (λ (it : Place × Entry). it.1) same)))
          | inr was ↦ part.lacks.entries r f was
        ];
        count = let l = part.lacks.count in omega (arith, l, is, grown);
      };
      writing = writing_of b (with_entry x q e) filling means;
      numbered = subst AreNumbered (sym rows) (one_more_number (part.db 6) id (version_row id q e) refl part.numbered);
    }

-- ---- where the walk is

-- if the walk comes to the version of which a part was copied, that part is held
pub resumes : (w : World) (at : Cursor) (v : Version) (part : Part) (s : State) → at.part ≡ Some part
    → at.from ≡ Some v.id → part.place ≡ v.place
    → HoldsUpTo w at s → HoldsPart w at.left v.place v.id part.next s
resumes w at v part s is from place holds =
    let it = subst (λ o. MatchOption o (HoldsAllBut w at.left s)
    (λ p. (id : ℤ) × (at.from ≡ Some id) × HoldsPart w at.left p.place id p.next s)) is holds in
    let same : it.0 ≡ v.id = let e : ◌≡◌ {A = Option ℤ} (Some it.0) (Some v.id) = sym it.1 ∙ from in cc in
    subst (λ q. HoldsPart w at.left q v.id part.next s) place
    (subst (λ n. HoldsPart w at.left part.place n part.next s) same it.2)

-- tables that stand for the shelves and the keys of w, and for no entry, lack all its entries
pub begun : (w y : World) (s : State) → y.shelves ≡ w.shelves → y.keys ≡ w.keys → y.entries ≡ map.empty → Writing s y
    → HoldsAllBut w (map.len w.entries) s
begun w y s shelves keys none writing =
    let nothing = λ (q : Place) (e : Entry) (at : map.get y.entries q ≡ Some e).
    none_in_empty place_cmp q e (ap (λ m. map.get m q) (sym none) ∙ at) in
    let short : map.len y.entries ≡ 0 = ap map.len none ∙ map.len-empty place_cmp Entry in
    record {
      x = y;
      lacks = record {
        shelves = shelves;
        keys = keys;
        entries = λ q e at. absurd (nothing q e at);
        count = omega (arith, short);
      };
      writing = writing;
      numbered = λ row there.
          let of = writing.trees.means.entries.each row there in absurd (nothing of.0.0 of.0.1 of.2);
    }
