-- The keys of a text that is a version are those of the version.
use Rattle.std.proofs.Common.{◌≡◌, ℕ, List, Some, ap}
use Rattle.modver.specs.Keys.{order_key_of, rank_key_of}
use Rattle.modver.specs.Reading.{version_of}
use Rattle.modver.specs.SemanticVersion.{SemanticVersion}
use Rattle.tables.specs.VersionKeys.{key_if, order_key_at, rank_key_at}

pub order_at : (text : List ℕ) (v : SemanticVersion) → version_of text ≡ Some v → order_key_at text ≡ order_key_of v
unfolding order_key_at
order_at text v is = ap (key_if order_key_of) is

pub rank_at : (text : List ℕ) (v : SemanticVersion) → version_of text ≡ Some v → rank_key_at text ≡ rank_key_of v
unfolding rank_key_at
rank_at text v is = ap (key_if rank_key_of) is
