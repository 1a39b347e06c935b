use Rattle.std.proofs.Common.{◌≡◌, ◌==◌, ◌<◌, ◌≤◌, ℕ, false, get_or, length}
use Rattle.modver.proofs.pseudo.cut_last.Given as goal

-- no dot from here on
abbrev pub invariant-loop-at : goal.invariant-loop-at
invariant-loop-at l = (k : ℕ) → l.at ≤ k → k < length l.text → (get_or l.text k 0 == 46) ≡ false
