-- Whether an entry may stand at a path and a version: the checks in their order, computed.
use Rattle.std.specs.Prelude.{ℕ, ◌≡◌, ◌↔◌, Bool, true, false, not, ◌&&◌, nat_le, length, List}
use Rattle.std.specs.Prelude.{[], ◌∷◌, Option, Some, None, is_none, bytes_eq, if◌then◌else◌}
use Rattle.modver.specs.Class.{class_of}
use Rattle.modver.specs.Reading.{version_of}
use Rattle.modver.specs.SemanticVersion.{SemanticVersion}
use Rattle.modver.specs.declared.version.Class.{Class}
use Rattle.modver.specs.declared.version.Class.TheVariants as class
use Rattle.world.specs.declared.entry.Entry.{Entry}
use Rattle.world.specs.declared.entry_test.Misfit.{Misfit}
use Rattle.world.specs.declared.entry_test.Misfit.TheVariants as misfit
use Rattle.world.specs.declared.reading.Reading.{Reading}
use Rattle.world.specs.declared.reading.Reading.TheVariants.{Module, Fault}
use Rattle.world.specs.Forms.{fits, path_of, is_time, suffix_of}
use Rattle.world.specs.GoMods.{reading_of}
use Rattle.world.specs.World.{IsEntry, place, gomod_limit, zip_limit}

-- the value beside the first check that fails (is true), if one does
abbrev pub first_failing : {A : Type 0} → List (Bool × A) → Option A
first_failing [] = None
first_failing (check ∷ checks) = if check.0 then Some check.1 else first_failing checks

-- ---- what an entry must be

-- whether the files are within the limits
abbrev pub is_small : Entry → Bool
is_small e = nat_le (length e.gomod) gomod_limit && nat_le (length e.zip) zip_limit

-- whether this may be the time of an entry with a version of this class: for a pseudo-version it is that of its stamp,
-- for any other version it is absent or well formed
abbrev pub is_time_of : Class → Option (List ℕ) → Bool
is_time_of (class.Pseudo stamp) None = false
is_time_of (class.Pseudo stamp) (Some time) = bytes_eq time stamp
is_time_of c None = true
is_time_of c (Some time) = is_time time

-- ---- what its go.mod, as it was read, must not be

-- whether it does not read
abbrev pub has_fault : Reading → Bool
has_fault (Fault line) = true
has_fault (Module m) = false

-- the line of its fault, 0 if it reads
abbrev pub fault_line : Reading → ℕ
fault_line (Fault line) = line
fault_line (Module m) = 0

-- whether it reads and names another path
abbrev pub names_other : List ℕ → Reading → Bool
names_other path (Fault line) = false
names_other path (Module m) = not (bytes_eq m.path path)

-- whether it reads and has more than its module directive
abbrev pub has_more : Reading → Bool
has_more (Fault line) = false
has_more (Module m) = not m.bare

-- ---- the checks in their order, each with the misfit that it reports

-- the checks of an entry apart from its go.mod
abbrev pub own_checks : List ℕ → SemanticVersion → Entry → List (Bool × Misfit)
own_checks path v e =
    (not (is_small e), misfit.TooLarge)
    ∷ (not (fits (suffix_of path) v), misfit.Version)
    ∷ (not (is_time_of (class_of v) e.time), misfit.Time)
    ∷ []

-- the checks of a go.mod; the flag says whether the version has the mark
abbrev pub module_checks : List ℕ → Bool → Reading → List (Bool × Misfit)
module_checks path is_marked reading =
    (has_fault reading, misfit.GoMod (fault_line reading))
    ∷ (names_other path reading, misfit.ModulePath)
    ∷ (is_marked && has_more reading, misfit.NotBare)
    ∷ []

-- the first check of an entry that fails, apart from its go.mod
abbrev pub own_misfit : List ℕ → SemanticVersion → Entry → Option Misfit
own_misfit path v e = first_failing (own_checks path v e)

-- the first check of a go.mod that fails
abbrev pub module_misfit : List ℕ → Bool → Reading → Option Misfit
module_misfit path is_marked reading = first_failing (module_checks path is_marked reading)

-- ---- the test

-- whether path and version are there and no check of the entry fails
abbrev pub goes_with : Option (List ℕ) → Option SemanticVersion → Entry → Bool
goes_with None v e = false
goes_with (Some p) None e = false
goes_with (Some p) (Some v) e = is_none (own_misfit p v e) && is_none (module_misfit p v.marked (reading_of e.gomod))

-- whether an entry may stand at the path and the version that these texts name
abbrev pub is_entry : List ℕ → List ℕ → Entry → Bool
is_entry path version e = goes_with (path_of path) (version_of version) e

-- the version that the second text names, if an entry may stand at it and at the path that the first text names
abbrev pub fitting_version : List ℕ → List ℕ → Entry → Option SemanticVersion
fitting_version path version e = if is_entry path version e then version_of version else None

-- The test passes exactly those entries that may stand at the place, on whatever shelf.
abbrev pub EntryTestIsExact : Type 0
EntryTestIsExact = (s path version : List ℕ) (e : Entry)
    → (is_entry path version e ≡ true) ↔ IsEntry (place s path version) e
