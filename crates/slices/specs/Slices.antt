-- A copy of a world that is made a slice at a time, while versions come into the store that it is made of.
use Rattle.std.specs.Prelude.{ℕ, ℤ, ◌≡◌, ◌+◌, pos, List, Option, Some, None, Result, IfOk, MatchOption}
use Rattle.std.specs.FinMap as map
use Rattle.std.specs.FinSet as set
use Rattle.sqlite.specs.declared.types.Value.TheVariants.{Int, Blob}
use Rattle.sqlite.specs.Order.{Row, column}
use Rattle.sqlite.specs.State.{State, HasCleanDisk}
use Rattle.sqlite.specs.Tree.{Trees, rowid}
use Rattle.sqlite_rules.specs.Lists.{Has}
use Rattle.world.specs.declared.entry.Place.{Place}
use Rattle.world.specs.declared.entry.Entry.{Entry}
use Rattle.world.specs.World.{World, place_cmp, heading_of}
use Rattle.interleave.specs.Interleave.{IsSince}
use Rattle.tables.specs.Inserted.{Inserted}
use Rattle.tables.specs.Means.{Stands, StandFor}
use Rattle.tables.specs.Pieces.{HasPiece, piece}
use Rattle.tables.specs.Schema.{version_table}
use Rattle.statements.specs.Added.{AddsZip, AddsUpTo, version_row}
use Rattle.statements.specs.Extract.{ShowsVersion}
use Rattle.statements.specs.Reading.{IsZip}
use Rattle.statements.specs.Rows.{Filling, Writing}
use Rattle.statements.specs.declared.extract_rows.CopyError.{CopyError}
use Rattle.slices.specs.declared.cursor.Cursor.{Cursor}
use Rattle.slices.specs.declared.versions.Version.{Version}

-- ---- how far the copy is

-- x has the shelves and the keys of w, and all its entries but so many
pub record Lacks (w x : World) (left : ℕ) : Type 0 where
  pub shelves : x.shelves ≡ w.shelves
  pub keys : x.keys ≡ w.keys
  pub entries : (q : Place) (e : Entry) → map.get x.entries q ≡ Some e → map.get w.entries q ≡ Some e
  pub count : map.len w.entries ≡ map.len x.entries + left

-- what lacks no entry of a world is that world
abbrev pub LackingNoneIsWhole : Type 0
LackingNoneIsWhole = (w x : World) → Lacks w x 0 → x ≡ w

-- each row has a number
abbrev pub AreNumbered : List Row → Type 0
AreNumbered rows = (row : Row) → Has rows row → (n : ℤ) × (rowid row ≡ Int n)

-- inside a transaction, the tables stand for a world that lacks so many entries of w
pub record HoldsAllBut (w : World) (left : ℕ) (s : State) : Type 0 where
  pub x : World
  pub lacks : Lacks w x left
  pub writing : Writing s x
  pub numbered : AreNumbered (s.now.trees version_table.tree)

-- Inside a transaction, the tables stand for a world that lacks so many entries of w, but that they also have the row
-- of one of these entries, under this number, and the rows of the pieces of its zip that come before this one.
pub record HoldsPart (w : World) (left : ℕ) (q : Place) (id : ℤ) (next : ℕ) (s : State) : Type 0 where
  pub x : World
  pub lacks : Lacks w x left
  pub db : Trees
  pub stands : StandFor db x
  pub numbered : AreNumbered (db version_table.tree)
  pub entry : Entry
  pub there : map.get w.entries q ≡ Some entry
  pub free : map.get x.entries q ≡ None
  pub mid : Trees
  pub version : Inserted db mid version_table (version_row id q entry)
  pub zip : AddsUpTo id entry.zip next mid s.now.trees
  pub filling : Filling s

-- what the fresh store holds of w, inside its transaction, when the walk is there
abbrev pub HoldsUpTo : World → Cursor → State → Type 0
HoldsUpTo w at s = MatchOption at.part (HoldsAllBut w at.left s)
    (λ part. (id : ℤ) × (at.from ≡ Some id) × HoldsPart w at.left part.place id part.next s)

-- ---- rows of the source

-- the row is that of an entry of w: it shows its place, its heading and its order keys, and its number is its pieces'
pub record IsVersionIn (db : Trees) (w : World) (v : Version) : Type 0 where
  pub entry : Entry
  pub there : map.get w.entries v.place ≡ Some entry
  pub number : column v.row 0 ≡ Int v.id
  pub shows : ShowsVersion v.row v.place (heading_of entry)
  pub zip : IsZip db v.id entry.zip

-- the row shows the number and the bytes of the zip's piece of this number; None: there is no such piece
abbrev pub ShowsPieceIn : List ℕ → ℕ → Option Row → Type 0
ShowsPieceIn zip n (Some row) = HasPiece zip n × (column row 1 ≡ Int (pos n)) × (column row 2 ≡ Blob (piece zip n))
ShowsPieceIn zip n None = HasPiece zip n → ⊥

-- so it is of the zip of the version with this number
abbrev pub ShowsPieceRow : Trees → ℤ → ℕ → Option Row → Type 0
ShowsPieceRow db id n found = (zip : List ℕ) → IsZip db id zip → ShowsPieceIn zip n found

-- ---- the calls

-- if the fresh tables had the rows of a zip's pieces before the first of these, they have those before the next; None:
-- they have all
abbrev pub CopiesPiecesFrom : State → State → State → State → ℤ → ℕ → Result (Option ℕ) CopyError → Type 0
CopiesPiecesFrom source source_new fresh fresh_new id first result =
    HasCleanDisk source_new → HasCleanDisk fresh_new → (later : World) → Stands source later
    → (zip : List ℕ) → IsZip source.now.trees id zip
    → (mid : Trees) → AddsUpTo id zip first mid fresh.now.trees → Filling fresh
    → IfOk result (λ next. Filling fresh_new
    × MatchOption next (AddsZip id zip mid fresh_new.now.trees) (λ n. AddsUpTo id zip n mid fresh_new.now.trees))

-- from a version of which a part was copied, the walk goes on to where the cursor says
abbrev pub CopiesRest : State → State → State → State → Version → ℕ → ℕ → Result Cursor CopyError → Type 0
CopiesRest source source_new fresh fresh_new version first left result =
    HasCleanDisk source_new → HasCleanDisk fresh_new → (w later : World) → Stands source later
    → (part : HoldsPart w left version.place version.id first fresh) → IsZip source.now.trees version.id part.entry.zip
    → IfOk result (λ next. HoldsUpTo w next fresh_new)

-- a version is copied, up to where the cursor says, or passed over if it is a newcomer
abbrev pub CopiesWhole :
    State → State → State → State → set.FinSet place_cmp → Version → ℕ → Result Cursor CopyError → Type 0
CopiesWhole source source_new fresh fresh_new newcomers version left result =
    HasCleanDisk source_new → HasCleanDisk fresh_new
    → (w later : World) → Stands source later → IsSince w later newcomers
    → IsVersionIn source.now.trees later version → HoldsAllBut w left fresh
    → IfOk result (λ next. HoldsUpTo w next fresh_new)

-- from the first cursor, where it comes to this version, the walk goes on to where the second one says
abbrev pub CopiesFrom :
    State → State → State → State → set.FinSet place_cmp → Version → Cursor → Result Cursor CopyError → Type 0
CopiesFrom source source_new fresh fresh_new newcomers version at result =
    HasCleanDisk source_new → HasCleanDisk fresh_new
    → (w later : World) → Stands source later → IsSince w later newcomers
    → IsVersionIn source.now.trees later version → HoldsUpTo w at fresh
    → IfOk result (λ next. HoldsUpTo w next fresh_new)

-- In each world that the source stood for, and for each world w that it has been since the newcomers came: if the fresh
-- store held of w what comes before the first cursor, it holds what comes before the second.
abbrev pub CopiesOn : State → State → State → State → set.FinSet place_cmp → Cursor → Result Cursor CopyError → Type 0
CopiesOn source source_new fresh fresh_new newcomers at result =
    HasCleanDisk source_new → HasCleanDisk fresh_new
    → (w later : World) → Stands source later → IsSince w later newcomers
    → HoldsUpTo w at fresh → IfOk result (λ next. HoldsUpTo w next fresh_new)
