-- What a server knows of its store beside the versions.
use Rattle.std.specs.Prelude.{ℕ, ◌≡◌, List, [], ◌∷◌, ◌++◌, Option, Some, option_copied, Result, Ok, Err}
use Rattle.interleave.specs.declared.between.CopyProgress.{CopyProgress}
use Rattle.control.specs.declared.copies.CopyRefusal.{CopyRefusal}
use Rattle.control.specs.declared.health.Metrics.{Metrics}
use Rattle.control.specs.declared.traffic.Traffic.{Traffic}

-- After a copy that was made, what is kept is what the clock showed last: a time, or none where it could not be read.
-- After a copy that was not made, it is what was kept before.
abbrev pub NotesTime :
    List (Option (List ℕ)) → Option (List ℕ) → Option (List ℕ) → Result (Unit {0}) CopyRefusal → Type 0
NotesTime times old new (Ok u) = (before : List (Option (List ℕ))) × (times ≡ before ++ new ∷ [])
NotesTime times old new (Err why) = new ≡ old

-- The sizes are those of figures of which this is known, and the rest is what is kept, and how far a copy is.
pub record TellsKept (known : Metrics → Type 0) (traffic : Traffic) (copied : Option (List ℕ))
    (copying : Option CopyProgress)
    (f : Metrics) : Type 0 where
  pub sizes : Metrics
  pub are_known : known sizes
  pub bytes : f.bytes ≡ sizes.bytes
  pub log : f.log ≡ sizes.log
  pub time : f.copied ≡ copied
  pub how_far : f.copying ≡ copying
  pub counts : option_copied f.traffic ≡ Some traffic
