-- Lists of shelves, no two of one name, and those that rows show.
use Rattle.std.proofs.Common.{◌≡◌, ◌⊎◌, ℕ, Bool, true, false, cond, List, [], ◌∷◌, ◌++◌, Option, Some, None, ◌+◌, ◌<◌}
use Rattle.std.proofs.Common.{length, take, get_or, inl, inr, refl, sym, ap, subst, subst₂, ◌∙◌, true≢false, is_some}
use Rattle.std.specs.Prelude.{bytes_eq, ◌||◌}
use Rattle.std.specs.FinMap as map
use Rattle.std.specs.FinSet as set
use Rattle.std.proofs.lemmas.Bool.{or_right}
use Rattle.std.proofs.lemmas.Map.Text.{is_eq-slice_cmp}
use Rattle.std.proofs.lemmas.List.{take_more}
use Rattle.sqlite_rules.specs.Lists.{Has}
use Rattle.sqlite_rules.proofs.ListLemmas.{has_left, has_right, has_either}
use Rattle.world.specs.World.{World, common, is_among, text_cmp}
use Rattle.world.proofs.Orders.{texts_total, text_self, text_same}
use Rattle.world.proofs.MoreTexts.{or_turn}
use Rattle.sqlite.specs.Order.{Row, column}
use Rattle.sqlite.specs.Term.{Term, col, eval_all}
use Rattle.sqlite.specs.Query.{Query}
use Rattle.sqlite.specs.Effect.{Database, Reads}
use Rattle.sqlite_value.specs.declared.keys.Key.{Key}
use Rattle.sqlite_value.specs.Keys.{ascending}
use Rattle.sqlite.specs.Collation.TheVariants.{Binary}
use Rattle.tables.specs.Means.{Means}
use Rattle.statements.specs.Lookup.{AreFound}
use Rattle.statements.specs.Shelves.{names_of, behind, AreNew, added, AreAllShelves, ShowsShelf, ListsRows}
use Rattle.statements.proofs.LookupLemmas.{ordered, asks, all_found}
use Rattle.statements.proofs.ShelfLemmas.{same_option}
use Rattle.statements.specs.declared.shelf_list.Shelf.{Shelf}

-- ---- names one behind another

or_end : (a : Bool) → a ≡ (a || false)
or_end true = refl
or_end false = refl

or_first : (a b : Bool) → ((a || false) || b) ≡ (a || b)
or_first true b = refl
or_first false b = refl

pub among_behind : (before ns : List (List ℕ)) (s : List ℕ)
    → is_among (behind before ns) s ≡ (is_among before s || is_among ns s)
among_behind before [] s = or_end (is_among before s)
among_behind before (n ∷ ns) s = among_behind (n ∷ before) ns s
    ∙ or_turn (bytes_eq s n) (is_among before s) (is_among ns s)

-- the names behind `common` are `common` and these names
pub among_all : (ns : List (List ℕ)) (s : List ℕ) → is_among (behind (common ∷ []) ns) s ≡ is_among (common ∷ ns) s
among_all ns s = among_behind (common ∷ []) ns s ∙ or_first (bytes_eq s common) (is_among ns s)

behind_more : (before ns : List (List ℕ)) (n : List ℕ) → behind before (ns ++ n ∷ []) ≡ n ∷ behind before ns
behind_more before [] n = refl
behind_more before (m ∷ ns) n = behind_more (m ∷ before) ns n

new_more : (before ns : List (List ℕ)) (n : List ℕ) → AreNew before ns → is_among (behind before ns) n ≡ false
    → AreNew before (ns ++ n ∷ [])
new_more before [] n new free = (free, tt)
new_more before (m ∷ ns) n new free = (new.0, new_more (m ∷ before) ns n new.1 free)

names_more : (shelves : List Shelf) (s : Shelf) → names_of (shelves ++ s ∷ []) ≡ names_of shelves ++ s.name ∷ []
names_more [] s = refl
names_more (t ∷ shelves) s = ap (λ ns. t.name ∷ ns) (names_more shelves s)

-- ---- the names of a list, as a set

abbrev pub AreNames : set.FinSet text_cmp → List (List ℕ) → Type 0
AreNames names ns = (s : List ℕ) → set.contains names s ≡ is_among (behind (common ∷ []) ns) s

one_more : (names : set.FinSet text_cmp) (ns : List (List ℕ)) (n : List ℕ)
    → ((s : List ℕ) → set.contains names s ≡ is_among ns s)
    → (s : List ℕ) → set.contains (set.insert names n) s ≡ is_among (n ∷ ns) s
one_more names ns n are s = set.contains-insert texts_total names n s ∙ (λ i. is_eq-slice_cmp s n i || are s i)

pub of_common : AreNames (set.insert set.empty common) []
of_common s = one_more set.empty [] common (λ s. set.contains-empty text_cmp s) s

module _ (shelves : List Shelf) (one : Shelf) (names : set.FinSet text_cmp) (are : AreNames names (names_of shelves))
  where
    -- a list that has the name stays as it was
    pub added_none : set.contains names one.name ≡ true → shelves ≡ added shelves one
    added_none there = sym (ap (λ b. cond b shelves (shelves ++ one ∷ []))
        (sym (among_all (names_of shelves) one.name) ∙ (sym (are one.name) ∙ there)))

    -- a shelf of another name comes at the end
    module _ (free : set.contains names one.name ≡ false) where
      pub added_one : shelves ++ one ∷ [] ≡ added shelves one
      added_one = sym (ap (λ b. cond b shelves (shelves ++ one ∷ []))
          (sym (among_all (names_of shelves) one.name) ∙ (sym (are one.name) ∙ free)))

      pub still_new : AreNew (common ∷ []) (names_of shelves) → AreNew (common ∷ []) (names_of (shelves ++ one ∷ []))
      still_new new = subst (AreNew (common ∷ [])) (sym (names_more shelves one))
          (new_more (common ∷ []) (names_of shelves) one.name new (sym (are one.name) ∙ free))

      pub still_names : AreNames (set.insert names one.name) (names_of (shelves ++ one ∷ []))
      still_names s =
          one_more names (behind (common ∷ []) (names_of shelves)) one.name are s
          ∙ ap (λ ns. is_among ns s)
          (sym (ap (behind (common ∷ [])) (names_more shelves one)
          ∙ behind_more (common ∷ []) (names_of shelves) one.name))

-- ---- a shelf that was added

pub or_apart : (a b c : Bool) → (a || (b || c)) ≡ ((a || b) || c)
or_apart true b c = refl
or_apart false b c = refl

among_more : (ns : List (List ℕ)) (n s : List ℕ) → is_among (ns ++ n ∷ []) s ≡ (is_among ns s || bytes_eq s n)
among_more [] n s = sym (or_end (bytes_eq s n))
among_more (m ∷ ns) n s = ap (λ b. bytes_eq s m || b) (among_more ns n s)
    ∙ or_apart (bytes_eq s m) (is_among ns s) (bytes_eq s n)

or_taken : (a b : Bool) → (b ≡ true → a ≡ true) → a ≡ (a || b)
or_taken true b h = refl
or_taken false true h = h refl
or_taken false false h = refl

-- the names of the new list are those of the old one and the name of the shelf
pub added_names : (shelves : List Shelf) (one : Shelf) (s : List ℕ)
    → is_among (common ∷ names_of (added shelves one)) s
    ≡ (is_among (common ∷ names_of shelves) s || bytes_eq s one.name)
added_names shelves one s = go (is_among (common ∷ names_of shelves) one.name) refl
  where
    go : (b : Bool) → is_among (common ∷ names_of shelves) one.name ≡ b
        → is_among (common ∷ names_of (cond b shelves (shelves ++ one ∷ []))) s
        ≡ (is_among (common ∷ names_of shelves) s || bytes_eq s one.name)
    go true there = or_taken _ (bytes_eq s one.name)
        (λ same. ap (is_among (common ∷ names_of shelves)) (text_same s one.name same) ∙ there)
    go false free = ap (λ ns. is_among (common ∷ ns) s) (names_more shelves one)
        ∙ among_more (common ∷ names_of shelves) one.name s

-- each shelf of the new list is one of the old list, or the shelf that was added
pub added_has : (shelves : List Shelf) (one it : Shelf) → Has (added shelves one) it → Has shelves it ⊎ (it ≡ one)
added_has shelves one it h = go (is_among (common ∷ names_of shelves) one.name) h
  where
    go : (b : Bool) → Has (cond b shelves (shelves ++ one ∷ [])) it → Has shelves it ⊎ (it ≡ one)
    go true there = inl there
    go false there = elim (has_either shelves (one ∷ []) it there) [
      | inl was ↦ inl was
      | inr (inl is) ↦ inr is
      | inr (inr none) ↦ absurd none
    ]

-- ---- the shelves that rows show

pub no_rows : ListsRows [] []
no_rows = record { from = λ s none. absurd none; to = λ row none. absurd none }

or_still : (a b : Bool) → a ≡ true → (a || b) ≡ true
or_still true b h = refl
or_still false b h = absurd (true≢false (sym h))

-- if the list is that of the rows, the list with the shelf of one more row is that of the rows with this row
pub rows_more : (rows : List Row) (row : Row) (shelves : List Shelf) (s : Shelf) → ShowsShelf row s
    → ListsRows rows shelves → ListsRows (rows ++ row ∷ []) (added shelves s)
rows_more rows row shelves s shows lists = record {
  from = λ it h. elim (added_has shelves s it h) [
    | inl was ↦ let from = lists.from it was in (from.0, has_left rows (row ∷ []) from.0 from.1, from.2)
    | inr is ↦ (row, has_right rows (row ∷ []) row (inl refl), subst (ShowsShelf row) (sym is) shows)
  ];
  to = λ r there. elim (has_either rows (row ∷ []) r there) [
    | inl was ↦ let to = lists.to r was in (to.0, to.1, added_names shelves s to.0.name ∙ or_still _ _ to.2)
    | inr (inl is) ↦ (
      s,
      subst (λ q. ShowsShelf q s) (sym is) shows,
      added_names shelves s s.name
          ∙ or_right _ _ (text_self s.name),
    )
    | inr (inr none) ↦ absurd none
  ];
}

-- ---- all shelves

abbrev shown : List Term
shown = col 1 2 ∷ col 1 1 ∷ []

abbrev pub by_parent : List (Term × Key)
by_parent = (col 1 2, ascending Binary) ∷ []

abbrev pub all_query : Query
all_query = ordered 2 [] shown by_parent

-- the list of the rows that the query of all shelves shows has all shelves of the world
pub all_listed : (db : Database) (w : World) (means : Means db.trees w) (rows : List Row)
    → Reads (asks all_query) db [] rows → (shelves : List Shelf) → ListsRows rows shelves → AreAllShelves w shelves
all_listed db w means rows read shelves lists =
    let found = all_found [] db 2 [] shown by_parent (λ _. refl) rows read in
    record {
      are = λ s there.
          let from = lists.from s there in
          let row = found.sound from.0 from.1 in
          let it = means.shelves.each row.0 row.1 in
          let name : it.0.0 ≡ s.name = let e = sym it.1.0
          ∙ (sym (ap (λ (r : Row). column r 1) row.3) ∙ from.2.0) in cc in
          let parent : it.0.1 ≡ s.parent =
          same_option it.0.1 s.parent (sym it.1.1 ∙ (sym (ap (λ (r : Row). column r 0) row.3) ∙ from.2.1)) in
          ap (map.get w.shelves) (sym name) ∙ (it.2 ∙ ap Some parent);
      each_is = λ s there. stood s (map.get w.shelves s) refl there found;
    }
  where
    stood : (s : List ℕ) (o : Option (Option (List ℕ))) → map.get w.shelves s ≡ o → is_some o ≡ true
        → AreFound (db.trees 2) [] shown [] rows → is_among (common ∷ names_of shelves) s ≡ true
    stood s None at there found = absurd (true≢false (sym there))
    stood s (Some parent) at there found =
        let it = means.shelves.found (s, parent) at in
        let to = lists.to (eval_all shown ([] ∷ it.0 ∷ [])) (found.complete it.0 it.1 refl) in
        let name : to.0.name ≡ s = let e = sym to.1.0 ∙ it.2.0 in cc in
        ap (is_among (common ∷ names_of shelves)) (sym name) ∙ to.2

pub rows_at : (rows : List Row) (at : ℕ) (row : Row) (shelves more : List Shelf) (s : Shelf) → at < length rows
    → row ≡ get_or rows at row → ShowsShelf row s → more ≡ added shelves s
    → ListsRows (take at rows) shelves → ListsRows (take (at + 1) rows) more
rows_at rows at row shelves more s within is shows made lists =
    subst₂ ListsRows (sym (take_more rows at row within ∙ ap (λ r. take at rows ++ r ∷ []) (sym is))) (sym made)
    (rows_more (take at rows) row shelves s shows lists)

-- ---- what a list keeps of its fields

-- the names of the shelves are distinct, and the set has them and `common`
abbrev pub AreListed : List Shelf → set.FinSet text_cmp → Type 0
AreListed shelves names = AreNew (common ∷ []) (names_of shelves) × AreNames names (names_of shelves)

pub first_listed : (shelves : List Shelf) (names before : set.FinSet text_cmp) (text : List ℕ) → shelves ≡ []
    → names ≡ set.insert before text → before ≡ set.empty → text ≡ common → AreListed shelves names
first_listed shelves names before text none made first is =
    let whole : names ≡ set.insert set.empty common = made ∙ (λ i. set.insert (first i) (is i)) in
    let start : AreNames names [] = subst (λ n. AreNames n []) (sym whole) of_common in
    subst (λ l. AreListed l names) (sym none) (tt, start)

pub more_listed : (shelves longer : List Shelf) (one : Shelf) (names more : set.FinSet text_cmp) (text : List ℕ)
    → AreListed shelves names → set.contains names one.name ≡ false
    → longer ≡ shelves ++ one ∷ [] → more ≡ set.insert names text → text ≡ one.name → AreListed longer more
more_listed shelves longer one names more text are free is made same =
    let whole : more ≡ set.insert names one.name = made ∙ ap (set.insert names) same in
    let still : AreNames more (names_of (shelves ++ one ∷ [])) =
    subst (λ n. AreNames n (names_of (shelves ++ one ∷ []))) (sym whole)
    (still_names shelves one names are.1 free) in
    subst (λ l. AreListed l more) (sym is) (still_new shelves one names are.1 free are.0, still)
