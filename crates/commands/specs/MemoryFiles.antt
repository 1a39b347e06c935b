-- Files in memory.
use Rattle.std.specs.Prelude.{ℕ, ◌≡◌, ◌≤◌, ◌<◌, ◌+◌, List, length, take, Option, Some, None, Result, Ok, Err}
use Rattle.histories.specs.Account.{Account}
use Rattle.commands.specs.Front.{is_whole}
use Rattle.commands.specs.declared.front.Front.{Front}
use Rattle.commands.specs.declared.front.ReadEnd.{ReadEnd}
use Rattle.commands.specs.declared.front.ReadEnd.TheVariants.{Whole, Full, Broken}
use Rattle.commands.specs.declared.sources.SourceFault.{SourceFault}
use Rattle.commands.specs.declared.sources.SourceFault.TheVariants.{NoFile, Memory}

-- what a reader gave whose bytes these are
abbrev pub account_of : Front → Account
account_of front = record { heard = front.bytes; is_over = is_whole front.end; left = None }

-- this is all of a text, or this many of its bytes and one more
abbrev pub IsCutBy : ℕ → List ℕ → List ℕ → ReadEnd → Type 0
IsCutBy most all bytes Whole = (bytes ≡ all) × (length all ≤ most)
IsCutBy most all bytes Full = (bytes ≡ take (most + 1) all) × (most < length all)
IsCutBy most all bytes (Broken fault) = ⊥

abbrev pub IsCutAt : ℕ → List ℕ → Front → Type 0
IsCutAt most all front = IsCutBy most all front.bytes front.end

-- this is returned of a file with these bytes, or of none; memory may run out
abbrev pub IsFrontOf : ℕ → Option (List ℕ) → Result Front SourceFault → Type 0
IsFrontOf most None (Ok front) = ⊥
IsFrontOf most None (Err fault) = Unit {0}
IsFrontOf most (Some all) (Ok front) = IsCutAt most all front
IsFrontOf most (Some all) (Err NoFile) = ⊥
IsFrontOf most (Some all) (Err Memory) = Unit {0}
