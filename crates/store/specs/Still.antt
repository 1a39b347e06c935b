-- Files that nothing was written to.
use Rattle.std.specs.Prelude.{◌≡◌, ℕ, List, IsTrue}
use Rattle.sqlite_disk.specs.declared.Disk.{Ghosts}
use Rattle.sqlite_disk.specs.declared.Files.{Files}
use Rattle.sqlite_disk.specs.declared.start.Start as start

-- the files hold what they held at first, also after a crash, and no sync of them has failed
pub record AreStill {D S : Type 0} (g : Ghosts D) (first : start.Ghosts S) (files : Files D) : Type 0 where
  pub log_usable : IsTrue (g.is_usable files.log)
  pub db_usable : IsTrue (g.is_usable files.db)
  pub log_seen : g.seen files.log ≡ first.log
  pub db_seen : g.seen files.db ≡ first.db
  pub log_kept : (c : List ℕ) → g.may_leave files.log c → c ≡ first.log
  pub db_kept : (c : List ℕ) → g.may_leave files.db c → c ≡ first.db
