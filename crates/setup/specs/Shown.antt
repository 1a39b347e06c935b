-- What is known of a store from what its connection shows.
use Rattle.std.specs.Prelude.{◌≡◌, ◌⊎◌}
use Rattle.sqlite.specs.State.{State, HasCleanDisk}
use Rattle.world.specs.World.{World}
use Rattle.world.specs.Store.{Shown}
use Rattle.tables.specs.Means.{StandsFor}
use Rattle.statements.specs.Calls.{LeavesOnly}

-- whatever a crash leaves stands for the first world or for the second
abbrev pub LeavesEither : State → World → World → Type 0
LeavesEither s w x = LeavesOnly s (λ y. (y ≡ w) ⊎ (y ≡ x))

-- what is known of a store from what its connection shows, before it counts a failure
abbrev pub shown_of : State → Shown
shown_of s = record { stands = StandsFor s; is_honest = HasCleanDisk s; leaves = LeavesEither s; failures = 0 }

-- each disk below has returned what was written, the store stands for the world, and a crash leaves that world alone
pub record BeginsAt (s : Shown) (w : World) : Type 0 where
  pub honest : s.is_honest
  pub stands : s.stands w
  pub left : s.leaves w w
