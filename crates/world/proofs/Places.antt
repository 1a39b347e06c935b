-- The path and the version of an entry read.
use Rattle.std.proofs.Common.{cond, ap, Some, None}
use Rattle.std.specs.Prelude.{is_ok}
use Rattle.modver.proofs.Readings.{version-of}
use Rattle.world.specs.declared.entry.Place.{Place}
use Rattle.world.specs.declared.entry.Entry.{Entry}
use Rattle.world.specs.Places.{PlaceReads, PlacesRead, SeenPlacesRead}
use Rattle.world.specs.World.{IsEntry, place}
use Rattle.world.proofs.SeenVersions.{entry_at}

place_reads : (q : Place) (e : Entry) → IsEntry q e → PlaceReads q.path q.version
place_reads q e is = record {
  as_path = ap (λ b. cond b (Some q.path) None) (ap is_ok is.path);
  named = is.version.0;
  as_version = (version-of q.version is.version.0).1 is.version.1;
  text = is.version.1.same;
}

pub places_read : PlacesRead
places_read w q e is at = place_reads q e (is.entries_fit q e at)

pub seen_places_read : SeenPlacesRead
seen_places_read w s p v is seen = place_reads (place seen.0.shelf p v) seen.0.entry (entry_at w is s p v seen)
