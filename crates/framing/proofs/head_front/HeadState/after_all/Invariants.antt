use Rattle.std.proofs.Common.{ℕ, List, ◌++◌, take}
use Rattle.framing.specs.HeadFront.{Stands}
use Rattle.framing.proofs.head_front.HeadState.after_all.Given as goal

-- the state of what was passed
abbrev pub invariant-loop-byte : goal.invariant-loop-byte
invariant-loop-byte l = (bytes : List ℕ) → Stands l.fn.self bytes → Stands l.state (bytes ++ take l.byte-index l.more)
