-- What a go.mod says to a publish, and when it fits a path and a version.
use Rattle.std.specs.Prelude.{ℕ, ◌≡◌, Bool, true, List, Option, Some, None, Result, Ok, Err}
use Rattle.gomod.specs.Faults.{faulty_line}
use Rattle.gomod.specs.Module.{GoModule}
use Rattle.gomod.specs.Reading as gomod
use Rattle.gomod.specs.Reads.{Reads}
use Rattle.gomod.specs.Keywords.{Keywords, profile_in_force}
use Rattle.gomod.specs.declared.fault.GoModFault.{GoModFault}
use Rattle.world.specs.declared.reading.Reading.{Reading}
use Rattle.world.specs.declared.reading.Reading.TheVariants.{Module, Fault}

-- by the profile in force, the file with these bytes says this
abbrev pub Says : List ℕ → GoModule → Type 0
Says bytes m = Reads profile_in_force bytes m

-- the result of reading a file: what it says, or the line of its fault
abbrev pub as_reading : Result GoModule GoModFault → Reading
as_reading (Ok m) = Module m
as_reading (Err f) = Fault (faulty_line f)

-- the result of reading a go.mod by these keywords
abbrev pub reading_by : Keywords → List ℕ → Reading
reading_by known bytes = as_reading (gomod.reading known bytes)

-- the result of reading a go.mod by the profile in force
abbrev pub reading_of : List ℕ → Reading
reading_of bytes = reading_by profile_in_force bytes

-- what a go.mod says, if it reads
abbrev pub module_in : Reading → Option GoModule
module_in (Module m) = Some m
module_in (Fault line) = None

-- by these keywords the go.mod reads, names the path, and is bare if the version has the mark
pub record IsGoModBy (known : Keywords) (path : List ℕ) (is_marked : Bool) (bytes : List ℕ) : Type 0 where
  pub says : GoModule
  pub reads : reading_by known bytes ≡ Module says
  pub names : says.path ≡ path
  pub bare : is_marked ≡ true → says.bare ≡ true

-- by the profile in force the go.mod reads, names the path, and is bare if the version has the mark
abbrev pub IsGoModOf : List ℕ → Bool → List ℕ → Type 0
IsGoModOf path is_marked bytes = IsGoModBy profile_in_force path is_marked bytes
