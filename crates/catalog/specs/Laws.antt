-- What the lines of a catalog are. (RFC 8259.)
use Rattle.std.specs.Prelude.{ℕ, ◌≡◌, Bool, true, false, List, [], ◌∷◌, ◌++◌, codes, Some, is_some}
use Rattle.std.specs.List.{AllByRecursion, concat}
use Rattle.modver.specs.SemanticVersion.{SemanticVersion, version_text}
use Rattle.world.specs.GoMods.{module_in, reading_of}
use Rattle.world.specs.World.{World, IsWorld, view}
use Rattle.world.specs.declared.entry.Entry.{Entry}
use Rattle.world.specs.declared.entry.Seen.{Seen}
use Rattle.catalog.specs.Catalog.{lines_seen}
use Rattle.catalog.specs.Json.{IsObjectLine}
use Rattle.catalog.specs.Line.{go_version_in, line}
use Rattle.catalog.specs.declared.line.Marks.{Marks}

-- a name that may be absent
abbrev pub name_if : Bool → List ℕ → List (List ℕ)
name_if true name = name ∷ []
name_if false name = []

-- the names in the line of an entry, in their order
abbrev pub names_of : Marks → Entry → List (List ℕ)
names_of marks e =
    codes "Path" ∷ codes "Version"
    ∷ (name_if (is_some e.time) (codes "Time")
    ++ (name_if marks.is_retracted (codes "Retracted")
    ++ (name_if marks.is_latest (codes "Latest")
    ++ (name_if (is_some (go_version_in (module_in (reading_of e.gomod)))) (codes "GoVersion")
    ++ codes "Require" ∷ codes "Shelf" ∷ codes "GoModSum" ∷ codes "ZipSize" ∷ []))))

-- In a world the line of what a shelf sees of a version is an object with these names, and an end of line.
abbrev pub LinesAreJson : Type 0
LinesAreJson = (w : World) (s p : List ℕ) (v : SemanticVersion) (marks : Marks) (seen : Seen) → IsWorld w
    → view w s p (version_text v) ≡ Some seen → IsObjectLine (names_of marks seen.entry) (line s p v marks seen)

-- each of these texts is an object and an end of line
abbrev pub AreObjectLines : List (List ℕ) → Type 0
AreObjectLines lines = AllByRecursion (λ text. (names : List (List ℕ)) × IsObjectLine names text) lines

-- In a world all lines together are such lines, one after another.
abbrev pub CatalogsAreJsonLines : Type 0
CatalogsAreJsonLines = (w : World) (s : List ℕ) → IsWorld w
    → (lines : List (List ℕ)) × AreObjectLines lines × (lines_seen w s ≡ concat lines)
