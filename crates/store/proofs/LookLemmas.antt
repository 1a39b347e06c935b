-- Files that are looked at before they are opened.
use Rattle.std.proofs.Common.{◌≡◌, ℕ, List, sym, ap₂, ◌∙◌}
use Rattle.sqlite_disk.specs.declared.Disk.{Ghosts}
use Rattle.sqlite_disk.specs.declared.Files.{Files}
use Rattle.sqlite_disk.specs.declared.start.Start as start
use Rattle.sqlite_wal.specs.Files.{image_at, outcomes}
use Rattle.sqlite_wal.specs.Reads.{AreClean}
use Rattle.sqlite_wal.specs.Recovery.{Image}
use Rattle.sqlite_pool.specs.Pool.{state, files}
use Rattle.sqlite.specs.Files.{image_of, IsCleanLeft}
use Rattle.sqlite.specs.Closing.{files_left}
use Rattle.sqlite.specs.declared.file.Leftover.{Leftover}
use Rattle.sqlite.specs.declared.file.Leftover.TheVariants as left
use Rattle.store.specs.Restart.{Keeps}
use Rattle.store.specs.Still.{AreStill}

abbrev image : List ℕ → List ℕ → Image
image log db = record { log = log; db = db }

module _ {D S : Type 0} {g : Ghosts D} {first : start.Ghosts S} (pair : Files D) (it : AreStill g first pair) where
  pub still_image : image_of g pair ≡ image_at first
  still_image = ap₂ image it.log_seen it.db_seen

  -- a crash leaves what they held
  pub still_keeps : Keeps {g = g} (image_at first) (left.Files pair)
  still_keeps now may = ap₂ image (it.log_kept now.log may.0) (it.db_kept now.db may.1)

  pub still_settled : (now : Image) → outcomes g pair.log pair.db now → now ≡ image_of g pair
  still_settled now may = still_keeps now may ∙ sym still_image

-- what is left of files is clean where the files are
pub clean_left : {D : Type 0} {g : Ghosts D} (rest : Leftover D g) → AreClean g (files_left rest).0 (files_left rest).1
    → IsCleanLeft rest
unfolding state files
clean_left (left.Files now) clean = clean
clean_left (left.Unopened now) clean = clean
clean_left (left.Store now) clean = clean
