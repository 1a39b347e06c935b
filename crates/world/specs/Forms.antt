-- The forms of paths and of versions, as their own crates define them.
use Rattle.std.specs.Prelude.{ℕ, List, if◌then◌else◌, Option, Some, None}
use Rattle.modver.specs.Reading.{IsCanonical}
use Rattle.modver.specs.SemanticVersion.{SemanticVersion}
unfoldable pub use Rattle.modver.specs.SemanticVersion.{has_text}
pub use Rattle.modver.specs.Fits.{fits}
pub use Rattle.modver.specs.Time.{is_time}
pub use Rattle.modpath.specs.Path.{IsPath, is_path, suffix_of}

-- the path that a text is, if it is one
abbrev pub path_of : List ℕ → Option (List ℕ)
path_of t = if is_path t then Some t else None

-- the text is that of some version
abbrev pub IsVersionText : List ℕ → Type 0
IsVersionText t = (v : SemanticVersion) × IsCanonical t v
