-- Each go.mod that the first profile reads, the second reads with the same result, so a world of the first is one of
-- the second.
use Rattle.std.proofs.Common.{◌≡◌, ℕ, List, Bool, ap, Result, Ok, Err}
use Rattle.gomod.proofs.FileLaw.{reads-from_reading, reading-from_reads}
use Rattle.gomod.proofs.MoreKeywords.{reads_more, profile_1-within}
use Rattle.gomod.specs.Keywords.{profile_1, profile_2}
use Rattle.gomod.specs.Module.{GoModule}
use Rattle.gomod.specs.Reading as gomod
use Rattle.gomod.specs.declared.fault.GoModFault.{GoModFault}
use Rattle.world.specs.declared.entry.Place.{Place}
use Rattle.world.specs.declared.entry.Entry.{Entry}
use Rattle.world.specs.declared.reading.Reading.TheVariants.{Module}
use Rattle.world.specs.GoMods.{as_reading, reading_by, IsGoModBy}
use Rattle.world.specs.Profiles.{Profile2KeepsWorlds}
use Rattle.world.specs.World.{IsEntryBy}

pub reading_ok : (r : Result GoModule GoModFault) (m : GoModule) → as_reading r ≡ Module m → r ≡ Ok m
reading_ok (Ok x) m e = let same : x ≡ m = cc e in ap Ok same
reading_ok (Err f) m e = cc e

pub reads_still : (bytes : List ℕ) (m : GoModule) → reading_by profile_1 bytes ≡ Module m
    → reading_by profile_2 bytes ≡ Module m
reads_still bytes m e =
    let by_first = reads-from_reading profile_1 bytes m (reading_ok (gomod.reading profile_1 bytes) m e) in
    ap as_reading (reading-from_reads profile_2 bytes m
    (reads_more profile_1 profile_2 bytes m profile_1-within by_first))

gomod_still : (path : List ℕ) (is_marked : Bool) (bytes : List ℕ) → IsGoModBy profile_1 path is_marked bytes
    → IsGoModBy profile_2 path is_marked bytes
gomod_still path is_marked bytes is =
    record { says = is.says; reads = reads_still bytes is.says is.reads; names = is.names; bare = is.bare }

-- an entry that may stand at a place by the first profile may stand there by the second
entry_still : (q : Place) (e : Entry) → IsEntryBy profile_1 q e → IsEntryBy profile_2 q e
entry_still q e is = record {
  path = is.path;
  version = is.version;
  fits = is.fits;
  gomod = is.gomod;
  zip = is.zip;
  time = is.time;
  reads = gomod_still q.path is.version.0.marked e.gomod is.reads;
}

-- a world by the first profile is a world by the second
pub world_still : Profile2KeepsWorlds
world_still w is = record {
  has_common = is.has_common;
  team_names = is.team_names;
  parents = is.parents;
  key_names = is.key_names;
  keys_stand = is.keys_stand;
  entries_fit = λ q e at. entry_still q e (is.entries_fit q e at);
  entries_stand = is.entries_stand;
  few = is.few;
}
