-- The JSON object of a version and its time. (Go Modules Reference, "GOPROXY protocol", `.info`; RFC 8259.)
use Rattle.std.specs.Prelude.{ℕ, List, codes, Option, Some, None}
use Rattle.modver.specs.SemanticVersion.{SemanticVersion, version_text}
use Rattle.serde_json.specs.Data.{Data, member, no_members, object, string}

-- the object of a version and its time, if it has one
abbrev pub info_object : SemanticVersion → Option (List ℕ) → Data
info_object version (Some time) =
    object (member (codes "Time") (string time) (member (codes "Version") (string (version_text version)) no_members))
info_object version None = object (member (codes "Version") (string (version_text version)) no_members)
