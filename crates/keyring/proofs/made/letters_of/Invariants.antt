use Rattle.std.proofs.Common.{◌≡◌, ◌++◌, drop}
use Rattle.keyring.specs.Made.{letters_of}
use Rattle.keyring.proofs.made.letters_of.Given as goal

-- the letters so far, and those of the other bytes, are all letters
abbrev pub invariant-loop-byte : goal.invariant-loop-byte
invariant-loop-byte l = l.letters.items ++ letters_of (drop l.byte-index l.bytes) ≡ letters_of l.bytes
