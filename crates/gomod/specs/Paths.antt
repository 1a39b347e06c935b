-- What a go.mod file demands of its paths and versions, in the words of modpath and modver.
use Rattle.std.specs.Prelude.{ℕ, Bool, List, Option}
use Rattle.std.specs.Ordering.{is_lt}
use Rattle.modpath.specs.Path as path
use Rattle.modver.specs.SemanticVersion.{SemanticVersion}
use Rattle.modver.specs.Reading as reading
use Rattle.modver.specs.Fits as fitting
use Rattle.modver.specs.Precedence as order

abbrev pub Version : Type 0
Version = SemanticVersion

-- whether a text is a module path, and whether it is a loose path, which a file may require
unfoldable pub is_path : List ℕ → Bool
is_path text = path.is_path text

unfoldable pub is_loose_path : List ℕ → Bool
is_loose_path text = path.is_loose_path text

-- the version whose canonical text this is, if there is one
unfoldable pub version_of : List ℕ → Option Version
version_of text = reading.version_of text

-- whether a path may have a version
unfoldable pub fits_path : List ℕ → Version → Bool
fits_path text version = fitting.fits (path.suffix_of text) version

-- one version is below another by precedence
unfoldable pub IsBelow : Version → Version → Type 0
IsBelow u v = order.IsBelow u v

unfoldable pub is_below : Version → Version → Bool
is_below u v = is_lt (order.precedence u v)
