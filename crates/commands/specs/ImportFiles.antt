-- The files of a row.
use Rattle.std.specs.Prelude.{List, [], ◌≡◌, ◌⊎◌, Bool, true, ◌&&◌, is_some, Result, Ok, Err}
use Rattle.modver.specs.Reading.{version_of}
use Rattle.machine.specs.declared.request.Body.{Body}
use Rattle.world.specs.Forms.{path_of}
use Rattle.commands.specs.ImportList.{Line}
use Rattle.commands.specs.Sources.{FileDone, ReadsBoth}
use Rattle.commands.specs.declared.sources.SourceFault.{SourceFault}
use Rattle.commands.specs.declared.sources.SourceFault.TheVariants.{NoFile, Memory}

-- the path and the version of a row are valid
abbrev pub is_readable : Line → Bool
is_readable l = is_some (path_of l.path) && is_some (version_of l.version)

abbrev pub IsReadable : Line → Type 0
IsReadable l = is_readable l ≡ true

-- This was read as the files of a row, by these deeds. If the path or the version is invalid, nothing is read; so it may
-- be if memory ran out.
module _ (l : Line) where
  abbrev pub IsBodyOf : Result Body SourceFault → List FileDone → Type 0
  IsBodyOf (Ok body) deeds =
      (IsReadable l → ReadsBoth l.gomod l.zip (Ok body) deeds) × ((IsReadable l → ⊥) → deeds ≡ [])
  IsBodyOf (Err NoFile) deeds = IsReadable l × ReadsBoth l.gomod l.zip (Err NoFile) deeds
  IsBodyOf (Err Memory) deeds = (deeds ≡ []) ⊎ (IsReadable l × ReadsBoth l.gomod l.zip (Err Memory) deeds)
