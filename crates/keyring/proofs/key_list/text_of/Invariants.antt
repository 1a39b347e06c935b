use Rattle.std.proofs.Common.{◌≡◌, take}
use Rattle.keyring.specs.KeyList.{text_of}
use Rattle.keyring.proofs.key_list.text_of.Given as goal

-- the text of the lines so far
abbrev pub invariant-loop-line : goal.invariant-loop-line
invariant-loop-line l = l.text.items ≡ text_of (take l.line-index l.lines)
