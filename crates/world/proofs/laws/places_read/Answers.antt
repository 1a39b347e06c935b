use Rattle.world.proofs.Places.{places_read, seen_places_read}
use Rattle.world.proofs.laws.places_read.Goals as goal

pub returns : goal.returns
returns c = record { entries = places_read; seen = seen_places_read }
