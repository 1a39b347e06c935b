-- Keys of order and of rank: bytes that sort as the versions do.
use Rattle.std.specs.Prelude.{ℕ, zero, suc, ◌+◌, ◌==◌, ◌<◌, nat_eq, List, [], ◌∷◌, ◌++◌, length}
use Rattle.std.specs.Prelude.{slice_index, take, drop, if◌then◌else◌}
use Rattle.std.specs.Int.{from_be_bytes, to_be_bytes, w64}
use Rattle.std.specs.List.{flat_map, position_or_len}
use Rattle.std.specs.Option.{unwrap_or}
use Rattle.modver.specs.Class.{stamp_of}
use Rattle.modver.specs.Rank.{class_rank}
use Rattle.modver.specs.SemanticVersion.{SemanticVersion, is_numeric}

-- a number: 1, how many digits it has, and the digits; any other identifier: 2, its bytes, and 0
abbrev pub identifier_key : List ℕ → List ℕ
identifier_key i = if is_numeric i then 1 ∷ length i ∷ i else 2 ∷ (i ++ 0 ∷ [])

-- a release: 3, which is above the 1 or 2 before an identifier; a pre-release: each identifier, and 0 after the last
abbrev pub pre_release_key : List (List ℕ) → List ℕ
pre_release_key [] = 3 ∷ []
pre_release_key (i ∷ rest) = flat_map identifier_key (i ∷ rest) ++ 0 ∷ []

-- the three numbers in 8 bytes each, the most significant byte first, and then the pre-release; the mark does not enter
unfoldable pub order_key_of : SemanticVersion → List ℕ
order_key_of v = to_be_bytes w64 v.major
    ++ (to_be_bytes w64 v.minor ++ (to_be_bytes w64 v.patch ++ pre_release_key v.identifiers))

-- the rank of the class, and behind it the stamp of a pseudo-version
abbrev pub class_key : SemanticVersion → List ℕ
class_key v = class_rank v ∷ unwrap_or (stamp_of v) []

-- the class, and then the key of order
unfoldable pub rank_key_of : SemanticVersion → List ℕ
rank_key_of v = class_key v ++ order_key_of v

-- ---- the first bytes of a key, for a comparison that reads no more

-- as many of the first bytes of a key; those that it lacks are 0
abbrev pub padded : ℕ → List ℕ → List ℕ
padded zero key = []
padded (suc n) [] = 0 ∷ padded n []
padded (suc n) (b ∷ rest) = b ∷ padded n rest

-- the first 8 bytes of a key as a number, whose highest byte is the first
unfoldable pub head_of : List ℕ → ℕ
head_of key = from_be_bytes w64 (padded 8 key)

abbrev pub AreBytes : List ℕ → Type 0
AreBytes [] = Unit {0}
AreBytes (b ∷ bs) = (b < 256) × AreBytes bs

-- ---- the identifiers in a key

-- the identifiers at the front of a key, at most `n`; what follows their end does not count
abbrev pub front_identifiers : ℕ → List ℕ → List (List ℕ)
front_identifiers zero key = []
front_identifiers (suc n) [] = []
front_identifiers (suc n) (b ∷ rest) =
    if b == 1 then (take (slice_index rest 0) (drop 1 rest) ∷ front_identifiers n (drop (slice_index rest 0 + 1) rest))
    else (if b == 2
    then (take (position_or_len (nat_eq 0) rest) rest
    ∷ front_identifiers n (drop (position_or_len (nat_eq 0) rest + 1) rest))
    else [])

-- the identifiers that a key was made of, also if more bytes follow it
unfoldable pub identifiers_in : List ℕ → List (List ℕ)
identifiers_in key = front_identifiers (length key) key

-- the identifiers in a key of at most 8 bytes, of its head
unfoldable pub identifiers_in_head : ℕ → List (List ℕ)
identifiers_in_head head = identifiers_in (to_be_bytes w64 head)
