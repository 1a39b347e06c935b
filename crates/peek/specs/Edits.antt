-- What a file shows after changes that are not made to it.
use Rattle.std.specs.Prelude.{◌≡◌, ℕ, ◌+◌, ◌<◌, ◌≤◌, Bool, List, [], ◌∷◌, length, slice_index, if◌then◌else◌}
use Rattle.sqlite_disk.specs.Events.{overlaid, padded}
use Rattle.sqlite_disk.specs.declared.start.Start.{Ghosts}
use Rattle.peek.specs.declared.Edit.{Edit}
use Rattle.peek.specs.declared.Edit.TheVariants.{Put, Cut}

-- what the file held
abbrev pub held : {S : Type 0} → Ghosts S → Bool → List ℕ
held first is_log = if is_log then first.log else first.db

-- a file after a change
abbrev pub after : Edit → List ℕ → List ℕ
after (Put at bytes) file = overlaid file at bytes.items
after (Cut len) file = padded file len

-- a file after these changes, of which the oldest comes first
abbrev pub shown : List ℕ → List Edit → List ℕ
shown file [] = file
shown file (edit ∷ more) = shown (after edit file) more

-- the two begin with the same bytes, up to this offset
pub record Fronts (front : ℕ) (file now : List ℕ) : Type 0 where
  pub in_file : front ≤ length file
  pub within : front ≤ length now
  pub each : (i : ℕ) → i < front → slice_index now i ≡ slice_index file i

-- the bytes that the file has from an offset on, with zeros behind its end
abbrev pub IsPart : List ℕ → ℕ → List ℕ → Type 0
IsPart file at bytes = (i : ℕ) → i < length bytes → slice_index bytes i ≡ slice_index file (at + i)
