use Rattle.std.proofs.Common.{ℕ, List, take}
use Rattle.peek.specs.Edits.{IsPart, shown}
use Rattle.peek.proofs.lay_all.Given as goal

abbrev pub invariant-loop-edit : goal.invariant-loop-edit
invariant-loop-edit l = (file : List ℕ) → IsPart file l.at l.initial.buf
    → IsPart (shown file (take l.edit-index l.edits)) l.at l.buf
