-- A history of files to which nothing was added is not a longer one.
use Rattle.std.proofs.Common.{◌≡◌, List, [], ◌∷◌, ◌++◌, length, length-append, ap, arith}

pub not_longer : {A : Type 0} (before : List A) (deed : A) → before ≡ before ++ deed ∷ [] → ⊥
not_longer before deed is = omega (arith, ap length is, length-append before (deed ∷ []))
