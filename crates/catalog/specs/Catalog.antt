-- The lines of the versions that a shelf sees.
use Rattle.std.specs.Prelude.{ℕ, Bool, false, List, [], Option, Some, None, bytes_eq}
use Rattle.std.specs.List.{flat_map}
use Rattle.gomod.specs.Module.{GoModule, is_retracted}
use Rattle.modver.specs.SemanticVersion.{SemanticVersion, version_text}
use Rattle.world.specs.Forms.{path_of}
use Rattle.world.specs.Latest.{highest, latest_of, module_of}
use Rattle.world.specs.Lines.{in_order}
use Rattle.world.specs.Versions.{versions_of}
use Rattle.world.specs.Visible.{paths_seen}
use Rattle.world.specs.World.{World, heading, view}
use Rattle.world.specs.declared.entry.Seen.{Seen}
use Rattle.catalog.specs.Line.{line}
use Rattle.catalog.specs.declared.line.Marks.{Marks}

-- ---- what a path says of its versions

-- the go.mod by which `@latest` goes, if there is one: that of the highest version by rank that the shelf sees
abbrev pub ruling_at : World → List ℕ → List ℕ → Option SemanticVersion → Option GoModule
ruling_at w s p None = None
ruling_at w s p (Some top) = module_of (heading w s p (version_text top))

abbrev pub ruling : World → List ℕ → List ℕ → Option GoModule
ruling w s p = ruling_at w s p (highest (versions_of w s p))

-- whether that go.mod retracts a version
abbrev pub is_retracted_by : Option GoModule → SemanticVersion → Bool
is_retracted_by None v = false
is_retracted_by (Some m) v = is_retracted m v

abbrev pub is_that : Option SemanticVersion → SemanticVersion → Bool
is_that None v = false
is_that (Some latest) v = bytes_eq (version_text latest) (version_text v)

abbrev pub marks_of : Option GoModule → Option SemanticVersion → SemanticVersion → Marks
marks_of m latest v = record { is_retracted = is_retracted_by m v; is_latest = is_that latest v }

-- ---- the lines

-- the line of what is seen of a version; none if nothing is
abbrev pub seen_line : List ℕ → List ℕ → SemanticVersion → Marks → Option Seen → List ℕ
seen_line s p v marks None = []
seen_line s p v marks (Some seen) = line s p v marks seen

abbrev pub line_at : World → List ℕ → List ℕ → SemanticVersion → Marks → List ℕ
line_at w s p v marks = seen_line s p v marks (view w s p (version_text v))

-- the lines of these versions of a path, if this go.mod retracts and this is the latest
abbrev pub lines_by : World → List ℕ → List ℕ → Option GoModule → Option SemanticVersion → List SemanticVersion → List ℕ
lines_by w s p m latest vs = flat_map (λ v. line_at w s p v (marks_of m latest v)) vs

-- the lines of the versions of a path that the shelf sees, by precedence
abbrev pub lines_of_path : World → List ℕ → List ℕ → List ℕ
lines_of_path w s p = lines_by w s p (ruling w s p) (latest_of w s p) (versions_of w s p)

-- the lines of the path that a text is, or none if it is no path
abbrev pub lines_at : World → List ℕ → Option (List ℕ) → List ℕ
lines_at w s None = []
lines_at w s (Some p) = lines_of_path w s p

abbrev pub lines_of_text : World → List ℕ → List ℕ → List ℕ
lines_of_text w s t = lines_at w s (path_of t)

-- the lines of all versions that the shelf sees: the paths by their bytes, the versions of each by precedence
abbrev pub lines_seen : World → List ℕ → List ℕ
lines_seen w s = flat_map (lines_of_text w s) (in_order (paths_seen w s))
