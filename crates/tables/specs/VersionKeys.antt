-- The order_key and the rank_key of the version that a text names.
use Rattle.std.specs.Prelude.{ℕ, List, [], Option, Some, None}
use Rattle.modver.specs.Keys.{order_key_of, rank_key_of}
use Rattle.modver.specs.Reading.{version_of}
use Rattle.modver.specs.SemanticVersion.{SemanticVersion}

-- a key of a version, or no byte if there is no version
abbrev pub key_if : (SemanticVersion → List ℕ) → Option SemanticVersion → List ℕ
key_if key None = []
key_if key (Some v) = key v

-- the order_key of the version that a text names, or no byte if it names none
unfoldable pub order_key_at : List ℕ → List ℕ
order_key_at text = key_if order_key_of (version_of text)

-- the rank_key of the version that a text names, or no byte if it names none
unfoldable pub rank_key_at : List ℕ → List ℕ
rank_key_at text = key_if rank_key_of (version_of text)
