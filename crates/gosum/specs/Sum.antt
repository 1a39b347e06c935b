-- The hash of a go.mod and its go.sum line. (Go Modules Reference, "go.sum files" and "Module authentication".)
use Rattle.std.specs.Prelude.{ℕ, List, ◌++◌, codes}
use Rattle.base64.specs.Engines.{standard}
use Rattle.base64.specs.GeneralPurpose.{encode_of}
use Rattle.hex.specs.Hex.{encode_lower}
use Rattle.sha2.specs.Sha256.{sha256}

-- the line that names the one file of the sum: its SHA-256 in lower-case hexadecimal, two spaces, its name and a
-- newline
abbrev pub file_line : List ℕ → List ℕ
file_line gomod = encode_lower (sha256 gomod) ++ codes "  go.mod\n"

-- `h1:` and the SHA-256 of that line in padded base64 of the standard alphabet
abbrev pub hash_of : List ℕ → List ℕ
hash_of gomod = codes "h1:" ++ encode_of standard (sha256 (file_line gomod))

-- the go.sum line: the path, a space, the version, `/go.mod`, a space and the hash
abbrev pub go_sum_line : List ℕ → List ℕ → List ℕ → List ℕ
go_sum_line path version gomod = path ++ (codes " " ++ (version ++ (codes "/go.mod " ++ hash_of gomod)))
