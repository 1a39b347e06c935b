-- What is known of a store.
use Rattle.std.specs.Prelude.{ℕ}
use Rattle.sqlite.specs.State.{State, HasCleanDisk}
use Rattle.world.specs.Store.{Shown}
use Rattle.tables.specs.Means.{StandsFor}
use Rattle.cache.specs.declared.caches.Caches.{Caches}
use Rattle.cache.specs.Caches.{AreKept}
pub use Rattle.setup.specs.Shown.{LeavesEither, shown_of, BeginsAt}

-- What is known of a store from what its connection shows, from what it keeps, which is true in each world that it
-- stands for, and from how many failures it has counted.
abbrev pub shown_with : State → Caches → ℕ → Shown
shown_with s kept failures = record {
  stands = λ w. StandsFor s w × AreKept w kept;
  is_honest = HasCleanDisk s;
  leaves = LeavesEither s;
  failures = failures;
}
