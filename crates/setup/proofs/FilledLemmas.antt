-- The copied rows stand for a world of some shelves.
use Rattle.std.proofs.Common.{◌≡◌, ℕ, List, [], ◌∷◌, filter, Bool, true, false, cond, Option, Some, None, inl, inr}
use Rattle.std.proofs.Common.{refl, sym, ap, subst, ◌∙◌, arith, true≢false}
use Rattle.std.specs.Prelude.{bytes_eq, ◌||◌}
use Rattle.std.specs.FinMap as map
use Rattle.std.proofs.lemmas.Bool.{false_from_ne_true}
use Rattle.std.proofs.lemmas.Map.Text.{is_eq-slice_cmp}
use Rattle.sqlite.specs.declared.types.Value.TheVariants.{Text}
use Rattle.sqlite.specs.Collation.TheVariants.{Binary}
use Rattle.sqlite.specs.Order.{Row, column}
use Rattle.sqlite.specs.Tree.{Trees, rowid}
use Rattle.sqlite_schema.specs.Rules.{equal}
use Rattle.sqlite_rules.specs.Lists.{Has}
use Rattle.sqlite_rules.proofs.ListLemmas.{has_filtered, has_kept}
use Rattle.world.specs.declared.entry.Place.{Place}
use Rattle.world.specs.declared.entry.Entry.{Entry}
use Rattle.world.specs.declared.entry.Holder.{Holder}
use Rattle.world.specs.World.{World, common, is_among, text_cmp, place_cmp, with_shelf, only_common}
use Rattle.world.specs.Part.{is_held}
use Rattle.world.proofs.Orders.{texts_total, texts_exact, text_same}
use Rattle.tables.specs.Means.{Means, StandFor, Tabulates, IsVersion, IsShelf, IsAccess, IsEachPlaceOnce}
use Rattle.tables.specs.Means.{IsEachPieceOnce, ArePieces, is_of}
use Rattle.tables.specs.Schema.{version_table, piece_table}
use Rattle.tables.proofs.OneWorld.{same_got}
use Rattle.tables.proofs.Maps.{none_in_empty}
use Rattle.tables.proofs.SoundLemmas.{piece_version}
use Rattle.statements.specs.Rows.{IsRead, IsOfAny, piece_read, AreApart, PutsRows, version_read}
use Rattle.statements.specs.Extract.{AddsKeys, Along, CopiesKeys, CopiesVersions, CopiesPieces, IsVersionOn, IsPieceOn}
use Rattle.statements.specs.Extract.{OfWorlds, Then}
use Rattle.statements.specs.Shelves.{names_of, behind, AreNew, AreShelves}
use Rattle.statements.specs.declared.shelf_list.Shelf.{Shelf}
use Rattle.statements.proofs.ShelfListLemmas.{among_all}
use Rattle.setup.specs.Parts.{part_of, registry_of, PutsRegistry, PutsShelves, MakesPart, MakesRegistry}
use Rattle.setup.proofs.PartLemmas.{part_all, is_there, has_there, parent_at, key_at, entry_at, held_key, held_entry}
use Rattle.statements.proofs.CopyKeyLemmas.{keys_of_none, keys_of_more}
use Rattle.statements.proofs.RowLemmas.{puts_along, of_as, same_pieces}

picked_in : {X : Type 0} (b : Bool) (o : Option X) (x : X) → b ≡ true → o ≡ Some x → cond b o None ≡ Some x
picked_in true o x h e = e
picked_in false o x h e = absurd (true≢false (sym h))

-- ---- the keys of some shelves

-- the world has the key, and it belongs to the shelf
abbrev IsKeyOf : World → List ℕ → List ℕ × Holder → Type 0
IsKeyOf w s it = (map.get w.keys it.0 ≡ Some it.1) × (it.1.shelf ≡ s)

-- the world has the key, and it belongs to one of the shelves
abbrev IsKeyOn : World → List (List ℕ) → List ℕ × Holder → Type 0
IsKeyOn w ss it = IsOfAny ss (λ s. IsKeyOf w s it)

-- if the keys of each shelf are copied, the world gets the keys of all of them
keys_along : (w : World) (ss : List (List ℕ)) (source db after : Trees) → Means source w
    → Along (λ s. OfWorlds (CopiesKeys s)) ss source db after
    → (x : World) → StandFor db x → (y : World) × AddsKeys (IsKeyOn w ss) x y × StandFor after y
keys_along w [] source db after means same x stand =
    (x, keys_of_none (IsKeyOf w) x, subst (λ t. StandFor t x) same stand)
keys_along w (s ∷ ss) source db after means it x stand =
    let one = it.1 w x means stand in
    let more = keys_along w ss source it.0 after means it.2 one.0 one.2 in
    (more.0, keys_of_more (IsKeyOf w) s ss x one.0 more.0 one.1 more.1, more.2)

-- ---- the shelves

-- the map has these shelves, each with the parent that it has in w, and no others
abbrev ArePut : World → List (List ℕ) → map.FinMap text_cmp (Option (List ℕ)) → Type 0
ArePut w ss shelves = (s : List ℕ) → map.get shelves s ≡ cond (is_among ss s) (map.get w.shelves s) None

-- x has these shelves of w, and nothing else
abbrev HasAlone : World → List (List ℕ) → World → Type 0
HasAlone w ss x = ArePut w ss x.shelves × (x.keys ≡ map.empty) × (x.entries ≡ map.empty)

-- once one more shelf is put in, the map has at a name what w has there, if the name is that shelf's or one of the
-- others
first_put : {X : Type 0} (b c : Bool) (o : X) (at : Option X) → (b ≡ true → at ≡ Some o)
    → cond b (Some o) (cond c at None) ≡ cond (b || c) at None
first_put true c o at first = sym (first refl)
first_put false c o at first = refl

module _ (w : World) where
  one_more : (ss : List (List ℕ)) (shelves : map.FinMap text_cmp (Option (List ℕ))) (t : List ℕ) (o : Option (List ℕ))
      → map.get w.shelves t ≡ Some o → ArePut w ss shelves → ArePut w (t ∷ ss) (map.insert shelves t o)
  one_more ss shelves t o at put s =
      map.get-insert texts_total shelves t o s
      ∙ (ap (λ b. cond b (Some o) (map.get shelves s)) (is_eq-slice_cmp s t)
      ∙ (ap (cond (bytes_eq s t) (Some o)) (put s)
      ∙ first_put (bytes_eq s t) (is_among ss s) o (map.get w.shelves s)
      (λ same. ap (map.get w.shelves) (text_same s t same) ∙ at)))

  not_put : (ss : List (List ℕ)) (shelves : map.FinMap text_cmp (Option (List ℕ))) (s : List ℕ) → ArePut w ss shelves
      → (is_among ss s ≡ true → ⊥) → map.get shelves s ≡ None
  not_put ss shelves s put other = put s ∙ ap (λ b. cond b (map.get w.shelves s) None) (false_from_ne_true _ other)

-- if the shelves of a list are put in, the world gets them and nothing else
shelves_put : (w : World) (shelves : List Shelf) (before : List (List ℕ)) (db after : Trees) → AreShelves w shelves
    → AreNew before (names_of shelves)
    → (x : World) → HasAlone w before x → StandFor db x → PutsShelves shelves db after
    → (y : World) × HasAlone w (behind before (names_of shelves)) y × StandFor after y
shelves_put w [] before db after are new x alone stand same = (x, alone, subst (λ t. StandFor t x) same stand)
shelves_put w (s ∷ shelves) before db after are new x alone stand puts =
    let free = not_put w before x.shelves s.name alone.0 (λ among. true≢false (sym among ∙ new.0)) in
    let more : HasAlone w (s.name ∷ before) (with_shelf x s.name s.parent) =
    (one_more w before x.shelves s.name s.parent (are s (inl refl)) alone.0, alone.1, alone.2) in
    shelves_put w shelves (s.name ∷ before) puts.0 after (λ it there. are it (inr there)) new.1
    (with_shelf x s.name s.parent) more (puts.1 x stand free) puts.2

-- ---- the registry

module _ (w x y : World) (ss : List (List ℕ)) (alone : HasAlone w ss x) (adds : AddsKeys (IsKeyOn w ss) x y) where
  shelves_are : y.shelves ≡ (part_of w ss).shelves
  shelves_are = adds.shelves ∙ map.same_map texts_total texts_exact _ _ (λ s. alone.0 s ∙ sym (parent_at w ss s))

  keys_are : y.keys ≡ (part_of w ss).keys
  keys_are = map.same_map texts_total texts_exact _ _ (λ k.
      same_got y.keys (part_of w ss).keys k
      (λ h at. elim ((adds.keys (k, h)).0 at) [
        | inl none ↦ absurd (none_in_empty text_cmp k h (sym (ap (λ m. map.get m k) alone.1) ∙ none))
        | inr on ↦ key_at w ss k
            ∙ picked_in (is_held ss (map.get w.keys k)) (map.get w.keys k) h
            (ap (is_held ss) on.2.0 ∙ (ap (is_among ss) on.2.1 ∙ is_there ss on.0 on.1)) on.2.0
      ])
      (λ h at. let it = held_key w ss k h at in
      (adds.keys (k, h)).1 (inr (h.shelf, has_there ss h.shelf it.1, (it.0, refl)))))

-- ---- the entries

-- a list that has no row is empty
none_there : (rows : List Row) → ((row : Row) → Has rows row → ⊥) → rows ≡ []
none_there [] none = refl
none_there (row ∷ rows) none = absurd (none row (inl refl))

apart_at_first : (Once : List Row → Type 0) (rows : List Row) → rows ≡ [] → Once [] → AreApart Once rows
apart_at_first Once rows none once =
    record { numbers = λ row there. absurd (subst (λ l. Has l row) none there); once = subst Once (sym none) once }

module _ (w : World) (ss : List (List ℕ)) (source db mid after : Trees) (means : Means source w)
    (no_version : db 6 ≡ []) (no_piece : db 8 ≡ [])
    (versions : PutsRows version_table version_read IsEachPlaceOnce
    (λ values. IsOfAny ss (λ s. IsVersionOn s source values)) db mid)
    (pieces : PutsRows piece_table piece_read IsEachPieceOnce (λ values. IsOfAny ss (λ s. IsPieceOn s source values))
    mid after) where
  versions_stay : after 6 ≡ mid 6
  versions_stay = pieces.tables.1.1.1.0 (λ e. omega (arith, e))

  no_piece_yet : mid 8 ≡ []
  no_piece_yet = versions.tables.1.1.1.1.0 (λ e. omega (arith, e)) ∙ no_piece

  version_from : (row : Row) → Has (after 6) row → IsOfAny ss (λ s. IsVersionOn s source (version_read row))
  version_from row there =
      elim ((versions.rows (version_read row)).0 (row, subst (λ l. Has l row) versions_stay there, refl)) [
        | inl first ↦ absurd (subst (λ l. Has l first.0) no_version first.1)
        | inr on ↦ on
      ]

  version_to : (values : Row) → IsOfAny ss (λ s. IsVersionOn s source values) → IsRead version_read (after 6) values
  version_to values on = let to = (versions.rows values).1 (inr on) in
      (to.0, subst (λ l. Has l to.0) (sym versions_stay) to.1, to.2)

  piece_from : (row : Row) → Has (after 8) row → IsOfAny ss (λ s. IsPieceOn s source (piece_read row))
  piece_from row there = elim ((pieces.rows (piece_read row)).0 (row, there, refl)) [
    | inl first ↦
        absurd (subst (λ l. Has l first.0) no_piece_yet first.1)
    | inr on ↦ on
  ]

  -- a copy of a version that is seen has its pieces
  pieces_copied : (s : List ℕ) → Has ss s → (one two : Row) (zip : List ℕ) → Has (source 6) one → column one 2 ≡ Text s
      → rowid two ≡ rowid one
      → ArePieces (filter (is_of one) (source 8)) zip → ArePieces (filter (is_of two) (after 8)) zip
  pieces_copied s seen one two zip there at number are = same_pieces one two (source 8) (after 8) zip
      (λ b here tied.
      let from = (piece_from b here).2 in
      let passed = has_filtered (is_of from.0) (source 8) from.3.0 from.3.1 in
      (from.3.0, passed.0, of_number one two from.3.0 number (of_as two from.3.0 b (sym from.3.2) tied), from.3.2))
      (λ a here tied.
      let b = (pieces.rows (piece_read a)).1
      (inr (s, seen, (one, there, at, (a, has_kept (is_of one) (source 8) a here tied, refl)))) in
      (b.0, b.1, of_as two b.0 a (sym b.2) (of_number two one a (sym number) tied), sym b.2))
      are
    where
      of_number : (one two piece : Row) → rowid two ≡ rowid one → is_of two piece ≡ true → is_of one piece ≡ true
      of_number one two piece number is = ap (λ v. equal Binary (column piece 1) v) (sym number) ∙ is

  version_copied : (s : List ℕ) → Has ss s → (one two : Row) (it : Place × Entry) → Has (source 6) one
      → column one 2 ≡ Text s → version_read two ≡ version_read one
      → IsVersion (source 8) one it → IsVersion (after 8) two it
  version_copied s seen one two it there at same is = record {
    place = (
      ap (λ (r : Row). column r 1) same ∙ is.place.0,
      ap (λ (r : Row). column r 2) same
          ∙ is.place.1,
      ap (λ (r : Row). column r 3) same ∙ is.place.2,
    );
    time = ap (λ (r : Row). column r 4) same ∙ is.time;
    gomod = ap (λ (r : Row). column r 5) same ∙ is.gomod;
    keys = record {
      order = ap (λ (r : Row). column r 6) same ∙ is.keys.order;
      rank = ap (λ (r : Row). column r 7) same
          ∙ is.keys.rank;
    };
    zip = pieces_copied s seen one two it.1.zip there at (ap (λ (r : Row). column r 0) same) is.zip;
  }

  -- the rows of `version` are the entries of the part
  entries_are : Tabulates (IsVersion (after 8)) (after 6) (λ it. map.get (part_of w ss).entries it.0 ≡ Some it.1)
  entries_are = record {
    each = λ row there.
        let from = version_from row there in
        let it = means.entries.each from.2.0.0 from.2.0.1 in
        let at : column from.2.0.0 2 ≡ Text from.0 = sym (ap (λ (r : Row). column r 1) from.2.0.2) ∙ from.2.1 in
        let own : it.0.0.shelf ≡ from.0 = let e = sym it.1.place.0 ∙ at in cc in
        let seen : is_among ss it.0.0.shelf ≡ true = ap (is_among ss) own ∙ is_there ss from.0 from.1 in (
          it.0,
          version_copied from.0 from.1 from.2.0.0 row it.0 from.2.0.1 at from.2.0.2 it.1,
          entry_at w ss it.0.0 ∙ picked_in (is_among ss it.0.0.shelf) (map.get w.entries it.0.0) it.0.1 seen it.2,
        );
    found = λ it holds.
        let held = held_entry w ss it.0 it.1 holds in
        let from = means.entries.found it held.0 in
        let seen = has_there ss it.0.shelf held.1 in
        let to = version_to (version_read from.0) (it.0.shelf, seen, ((from.0, from.1, refl), from.2.place.0)) in
        (to.0, to.1, version_copied it.0.shelf seen from.0 to.0 it from.1 from.2.place.0 (sym to.2) from.2);
  }

  places_are : IsEachPlaceOnce (after 6)
  places_are = subst IsEachPlaceOnce (sym versions_stay)
      (versions.apart (apart_at_first IsEachPlaceOnce (db 6) no_version tt)).once

  pieces_are : IsEachPieceOnce (after 8)
  pieces_are = (pieces.apart (apart_at_first IsEachPieceOnce (mid 8) no_piece_yet tt)).once

  meta_stays : after 0 ≡ db 0
  meta_stays = pieces.tables.0 (λ e. omega (arith, e)) ∙ versions.tables.0 (λ e. omega (arith, e))

  shelf_stays : after 2 ≡ db 2
  shelf_stays = pieces.tables.1.0 (λ e. omega (arith, e)) ∙ versions.tables.1.0 (λ e. omega (arith, e))

  access_stays : after 4 ≡ db 4
  access_stays = pieces.tables.1.1.0 (λ e. omega (arith, e)) ∙ versions.tables.1.1.0 (λ e. omega (arith, e))

  -- if the tables had the keys and shelves of the part, and no entry, they mean the part
  pub filled : (y : World) → y.shelves ≡ (part_of w ss).shelves → y.keys ≡ (part_of w ss).keys → Means db y
      → Means after (part_of w ss)
  filled y shelves keys was = record {
    named = rw meta_stays was.named;
    shelves = rw shelf_stays
        (subst (λ m. Tabulates IsShelf (db 2) (λ it. map.get m it.0 ≡ Some it.1)) shelves was.shelves);
    names = rw shelf_stays was.names;
    access = rw access_stays
        (subst (λ m. Tabulates IsAccess (db 4) (λ it. map.get m it.0 ≡ Some it.1)) keys was.access);
    numbered = rw access_stays was.numbered;
    entries = entries_are;
    tokens = rw access_stays was.tokens;
    places = places_are;
    pieces = pieces_are;
  }

-- tables that mean a world without entries have no version
no_version_yet : (db : Trees) (x y : World) → Means db y → y.entries ≡ x.entries → x.entries ≡ map.empty → db 6 ≡ []
no_version_yet db x y means same none =
    none_there (db 6) (λ row there. let of = means.entries.each row there in
    none_in_empty place_cmp of.0.0 of.0.1 (ap (λ m. map.get m of.0.0) (sym (same ∙ none)) ∙ of.2))

-- the shelves of a list are put in, and then the keys, the versions and the pieces of these and of `common`
abbrev FillsAlong : List Shelf → List (List ℕ) → Trees → Trees → Trees → Type 0
FillsAlong shelves ss = Then
    (Then (Then (λ _. PutsShelves shelves) (Along (λ s. OfWorlds (CopiesKeys s)) ss)) (Along CopiesVersions ss))
    (Along CopiesPieces ss)

-- the copies, in this order, make of a store with `common` alone the part of the source with these shelves and `common`
pub makes_part : (shelves : List Shelf) → AreNew (common ∷ []) (names_of shelves) → (source db after : Trees)
    → FillsAlong shelves (common ∷ names_of shelves) source db after → MakesPart shelves source db after
makes_part shelves new source db after it w means is are blank =
    let ss : List (List ℕ) = common ∷ names_of shelves in
    let with_keys : Trees = it.1.0 in
    let with_versions : Trees = it.0 in
    let first : HasAlone w (common ∷ []) only_common =
    (one_more w [] map.empty common None is.has_common (map.get-empty text_cmp), refl, refl) in
    let put = shelves_put w shelves (common ∷ []) db it.1.1.0 are new only_common first blank it.1.1.1 in
    let x : World = put.0 in
    let alone : HasAlone w ss x = (
      λ s. put.1.0 s ∙ ap (λ b. cond b (map.get w.shelves s) None) (among_all (names_of shelves) s),
      put.1.1,
      put.1.2,
    ) in
    let made = keys_along w ss source it.1.1.0 with_keys means it.1.1.2 x put.2 in
    let y : World = made.0 in
    let adds : AddsKeys (IsKeyOn w ss) x y = made.1 in
    let no_version : with_keys 6 ≡ [] = no_version_yet with_keys x y made.2.means adds.entries alone.2 in
    let no_piece : with_keys 8 ≡ [] =
    none_there (with_keys 8)
    (λ row there. let of = piece_version with_keys made.2.sound row there in
    subst (λ l. Has l of.0) no_version of.1) in
    filled w ss source with_keys with_versions after means no_version no_piece
    (puts_along version_table version_read IsEachPlaceOnce IsVersionOn ss source with_keys with_versions it.1.2)
    (puts_along piece_table piece_read IsEachPieceOnce IsPieceOn ss source with_versions after it.2)
    y (shelves_are w x y ss alone adds) (keys_are w x y ss alone adds) made.2.means

-- the shelves of a world, and then their keys, make of a store with `common` alone the world without its entries
pub makes_registry : (shelves : List Shelf) → AreNew (common ∷ []) (names_of shelves) → (source db after : Trees)
    → PutsRegistry shelves source db after → MakesRegistry shelves source db after
makes_registry shelves new source db after it w means is all blank =
    let ss : List (List ℕ) = common ∷ names_of shelves in
    let first : HasAlone w (common ∷ []) only_common =
    (one_more w [] map.empty common None is.has_common (map.get-empty text_cmp), refl, refl) in
    let put = shelves_put w shelves (common ∷ []) db it.0 all.are new only_common first blank it.1 in
    let x : World = put.0 in
    let alone : HasAlone w ss x = (
      λ s. put.1.0 s ∙ ap (λ b. cond b (map.get w.shelves s) None) (among_all (names_of shelves) s),
      put.1.1,
      put.1.2,
    ) in
    let made = keys_along w ss source it.0 after means it.2 x put.2 in
    let y : World = made.0 in
    let adds : AddsKeys (IsKeyOn w ss) x y = made.1 in
    let whole : part_of w ss ≡ w = part_all w ss is all.each_is in
    let keys : y.keys ≡ w.keys = keys_are w x y ss alone adds ∙ ap (λ (v : World). v.keys) whole in
    let shelves_too : y.shelves ≡ w.shelves = shelves_are w x y ss alone adds ∙ ap (λ (v : World). v.shelves) whole in
    let entries : y.entries ≡ map.empty = adds.entries ∙ alone.2 in
    let same : y ≡ registry_of w = λ i. record { keys = keys i; shelves = shelves_too i; entries = entries i } in
    subst (StandFor after) same made.2
