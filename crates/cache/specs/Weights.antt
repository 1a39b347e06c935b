-- What kept values weigh, and the most that all of a kind weigh together.
use Rattle.std.specs.Prelude.{ℕ, ◌+◌, length}
use Rattle.cache.specs.declared.headings.KeptHeading.{KeptHeading}
use Rattle.cache.specs.declared.keys.KeptKey.{KeptKey}
use Rattle.cache.specs.declared.lists.KeptList.{KeptList}
use Rattle.cache.specs.declared.zips.KeptZip.{KeptZip}

-- a list weighs one for each version, and eight
abbrev pub list_weight : KeptList → ℕ
list_weight it = length it.versions + 8

abbrev pub most_lists : ℕ
most_lists = 65536

-- a zip weighs one for each byte, and 512
abbrev pub zip_weight : KeptZip → ℕ
zip_weight it = length it.zip + 512

-- two of the largest zips
abbrev pub most_zips : ℕ
most_zips = 33555456

-- a heading weighs one for each byte of its go.mod, and 512
abbrev pub heading_weight : KeptHeading → ℕ
heading_weight it = length it.seen.heading.gomod + 512

abbrev pub most_headings : ℕ
most_headings = 8388608

-- each key weighs one
abbrev pub key_weight : KeptKey → ℕ
key_weight it = 1

abbrev pub most_keys : ℕ
most_keys = 8192

-- the most shelves whose groups are kept
abbrev pub most_groups : ℕ
most_groups = 8192

-- the most counts of the versions of a path that are kept
abbrev pub most_counts : ℕ
most_counts = 16384

-- the most pairs of a path and a shelf that are kept as absent
abbrev pub most_absences : ℕ
most_absences = 16384
