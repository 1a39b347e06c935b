-- Lists of shelves to copy, and the shelves of a world and of rows.
use Rattle.std.specs.Prelude.{ℕ, ◌≡◌, true, false, if◌then◌else◌, List, [], ◌∷◌, ◌++◌, map as each, Some}
use Rattle.std.specs.FinMap as map
use Rattle.sqlite.specs.declared.types.Value.TheVariants.{Text}
use Rattle.sqlite.specs.Order.{Row, column}
use Rattle.sqlite.specs.Values.{or_null}
use Rattle.sqlite_rules.specs.Lists.{Has}
use Rattle.world.specs.World.{World, common, is_among}
use Rattle.statements.specs.declared.shelf_list.Shelf.{Shelf}

abbrev pub names_of : List Shelf → List (List ℕ)
names_of shelves = each (λ (s : Shelf). s.name) shelves

-- ---- distinct names

-- the names before, with each of these put in front of them in turn
abbrev pub behind : List (List ℕ) → List (List ℕ) → List (List ℕ)
behind before [] = before
behind before (n ∷ ns) = behind (n ∷ before) ns

-- no name is among those before, and none comes twice
abbrev pub AreNew : List (List ℕ) → List (List ℕ) → Type 0
AreNew before [] = Unit {0}
AreNew before (n ∷ ns) = (is_among before n ≡ false) × AreNew (n ∷ before) ns

-- the list with a shelf at its end, or as it is if the name is `common` or in the list
abbrev pub added : List Shelf → Shelf → List Shelf
added shelves s = if is_among (common ∷ names_of shelves) s.name then shelves else shelves ++ s ∷ []

-- ---- the shelves of a world

-- the world has each of these shelves, with this parent
abbrev pub AreShelves : World → List Shelf → Type 0
AreShelves w shelves = (s : Shelf) → Has shelves s → map.get w.shelves s.name ≡ Some s.parent

-- the world has each of these shelves, and each shelf of the world is among them or `common`
pub record AreAllShelves (w : World) (shelves : List Shelf) : Type 0 where
  pub are : AreShelves w shelves
  pub each_is : (s : List ℕ) → map.contains_key w.shelves s ≡ true → is_among (common ∷ names_of shelves) s ≡ true

-- ---- the shelves that rows show

-- a row shows the name and the parent of a shelf
abbrev pub ShowsShelf : Row → Shelf → Type 0
ShowsShelf row s = (column row 1 ≡ Text s.name) × (column row 0 ≡ or_null Text s.parent)

-- each shelf is shown by a row, and each row shows a shelf that is among them or `common`
pub record ListsRows (rows : List Row) (shelves : List Shelf) : Type 0 where
  pub from : (s : Shelf) → Has shelves s → (row : Row) × Has rows row × ShowsShelf row s
  pub to : (row : Row) → Has rows row
      → (s : Shelf) × ShowsShelf row s × (is_among (common ∷ names_of shelves) s.name ≡ true)
