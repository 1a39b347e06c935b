-- What a `Peek` shows.
use Rattle.std.specs.Prelude.{◌≡◌, Bool, []}
use Rattle.sqlite_disk.specs.declared.Disk as disk
use Rattle.sqlite_disk.specs.declared.start.Start as start
use Rattle.peek.specs.declared.Peek.{Peek}

module _ {D S : Type 0} {g : disk.Ghosts D} {first : start.Ghosts S} where
  abbrev pub file_of : Peek D S g first → D
  file_of p = p.file

  abbrev pub is_of_log : Peek D S g first → Bool
  is_of_log p = p.is_log

  -- it shows no change
  abbrev pub IsWhole : Peek D S g first → Type 0
  IsWhole p = p.edits.items ≡ []
