-- What becomes of a map of texts while a value of it is lent.
use Rattle.std.specs.Prelude.{ℕ, List, Option, OnSome, ◌≡◌}
use Rattle.std.specs.Borrow.{LendsSo, MutBor, Fml}
use Rattle.std.specs.FinMap as map
use denote.RattleType.{RattleType}
use Rattle.world.specs.World.{text_cmp}
use Rattle.world.specs.contracts.text_map.TextMap.{the_row}

-- the map ends with the last value that was written at the text if it had one there, and as it was otherwise
abbrev pub LendsValue : (V : RattleType) → MutBor (map.FinMap text_cmp V.Denot) → List ℕ → Option (MutBor V.Denot) → Fml
LendsValue V m k r = LendsSo (the_row V) V m r (λ n w. OnSome r (n ≡ map.insert m.now k w)) (λ n. n ≡ m.now)
