-- How an entry that is handed in compares with what a shelf sees of its version.
use Rattle.std.specs.Prelude.{ℕ, List, Bool, true, false, ◌&&◌, if◌then◌else◌, Option, Some, None, bytes_eq, option_map}
use Rattle.world.specs.declared.entry.Entry.{Entry}
use Rattle.world.specs.declared.standing.Standing.{Standing}
use Rattle.world.specs.declared.standing.Standing.TheVariants.{Absent, Same, Other}
use Rattle.world.specs.World.{World, view}

-- whether two times are equal, or both are absent
abbrev pub same_time : Option (List ℕ) → Option (List ℕ) → Bool
same_time None None = true
same_time None (Some u) = false
same_time (Some t) None = false
same_time (Some t) (Some u) = bytes_eq t u

-- whether two entries have the same files and the same time
abbrev pub same_entry : Entry → Entry → Bool
same_entry d e = bytes_eq d.gomod e.gomod && bytes_eq d.zip e.zip && same_time d.time e.time

-- how an entry compares with the one that is there, or with none
abbrev pub standing_to : Option Entry → Entry → Standing
standing_to None e = Absent
standing_to (Some d) e = if same_entry d e then Same else Other

-- the entry of a version that a shelf sees, if it sees one
abbrev pub entry_seen : World → List ℕ → List ℕ → List ℕ → Option Entry
entry_seen w s p v = option_map (λ seen. seen.entry) (view w s p v)

-- how an entry compares with what a shelf sees of a version
abbrev pub standing : World → List ℕ → List ℕ → List ℕ → Entry → Standing
standing w s p v e = standing_to (entry_seen w s p v) e
