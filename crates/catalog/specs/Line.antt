-- The line of a version: a JSON object with the names of `go list -m -json`. (RFC 8259.)
use Rattle.std.specs.Prelude.{ℕ, Bool, true, false, List, [], ◌∷◌, ◌++◌, codes, decimal, if◌then◌else◌}
use Rattle.std.specs.Prelude.{Option, Some, None, bytes_eq}
use Rattle.std.specs.List.{flat_map}
use Rattle.gomod.specs.Module.{GoModule, go_version}
use Rattle.gomod.specs.declared.entries.Requirement.{Requirement}
use Rattle.gosum.specs.Sum.{hash_of}
use Rattle.modver.specs.SemanticVersion.{SemanticVersion, version_text}
use Rattle.world.specs.GoMods.{module_in, reading_of}
use Rattle.outline.specs.Outline.{outline_of}
use Rattle.outline.specs.declared.outlines.Outline.{Outline}
use Rattle.world.specs.World.{common, heading_of}
use Rattle.world.specs.declared.entry.Heading.{Heading}
use Rattle.world.specs.declared.entry.Seen.{Seen}
use Rattle.catalog.specs.declared.line.Marks.{Marks}

-- a member behind others: a name and a text
abbrev pub text_member : List ℕ → List ℕ → List ℕ
text_member name text = codes ",\"" ++ (name ++ (codes "\":\"" ++ (text ++ codes "\"")))

-- a member that is absent if there is no text
abbrev pub maybe_member : List ℕ → Option (List ℕ) → List ℕ
maybe_member name None = []
maybe_member name (Some text) = text_member name text

-- a member that is `true`, or absent
abbrev pub flag_member : List ℕ → Bool → List ℕ
flag_member name true = codes ",\"" ++ (name ++ codes "\":true")
flag_member name false = []

-- a requirement: its path and its version
abbrev pub requirement : Requirement → List ℕ
requirement r =
    codes "{\"Path\":\"" ++ (r.path ++ (codes "\",\"Version\":\"" ++ (version_text r.version ++ codes "\"}")))

-- requirements behind others, and requirements, with a comma between two
abbrev pub more_requirements : List Requirement → List ℕ
more_requirements required = flat_map (λ r. codes "," ++ requirement r) required

abbrev pub requirements : List Requirement → List ℕ
requirements [] = []
requirements (r ∷ rs) = requirement r ++ more_requirements rs

-- what a go.mod names and what it requires; nothing if it does not read
abbrev pub go_version_in : Option GoModule → Option (List ℕ)
go_version_in None = None
go_version_in (Some m) = go_version m

abbrev pub required_in : Option GoModule → List Requirement
required_in None = []
required_in (Some m) = m.required

-- whose version it is, to a shelf: its own, that of its group, or that of common
abbrev pub home : List ℕ → List ℕ → List ℕ
home s owner =
    if bytes_eq owner s then codes "own" else (if bytes_eq owner common then codes "common" else codes "group")

-- the parts of a line: what names the version, what its path says of it, what its go.mod says, and the rest
abbrev pub names : List ℕ → SemanticVersion → List ℕ
names p v = codes "{\"Path\":\"" ++ (p ++ (codes "\"" ++ text_member (codes "Version") (version_text v)))

abbrev pub marks_text : Marks → List ℕ
marks_text marks = flag_member (codes "Retracted") marks.is_retracted ++ flag_member (codes "Latest") marks.is_latest

abbrev pub module_text : Option GoModule → List ℕ
module_text m =
    maybe_member (codes "GoVersion") (go_version_in m)
    ++ (codes ",\"Require\":[" ++ (requirements (required_in m) ++ codes "]"))

abbrev pub gomod_text : List ℕ → List ℕ
gomod_text gomod = module_text (module_in (reading_of gomod))

abbrev pub sums : List ℕ → List ℕ → ℕ → List ℕ
sums owner gomod zip_bytes =
    text_member (codes "Shelf") owner
    ++ (text_member (codes "GoModSum") (hash_of gomod) ++ (codes ",\"ZipSize\":" ++ (decimal zip_bytes ++ codes "}\n")))

-- what follows the path and the version, by the go.mod and the time, and by the owner and the length of the zip
abbrev pub rest : List ℕ → Marks → Heading → Outline → List ℕ
rest s marks heading it =
    maybe_member (codes "Time") heading.time
    ++ (marks_text marks ++ (gomod_text heading.gomod ++ sums (home s it.shelf) heading.gomod it.zip_bytes))

-- the line of a version that a shelf sees
abbrev pub line : List ℕ → List ℕ → SemanticVersion → Marks → Seen → List ℕ
line s p v marks seen = names p v ++ rest s marks (heading_of seen.entry) (outline_of seen)
