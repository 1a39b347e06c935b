-- Laws of keys of order and of rank, over the definitions alone.
use Rattle.std.specs.Prelude.{ℕ, ◌≡◌, ◌↔◌, ◌<◌, List, false}
use Rattle.std.specs.Cmp.Lexicographic.{slice_cmp}
use Rattle.std.specs.Ordering.{nat_cmp}
use Rattle.std.specs.declared.cmp.Ordering.{Ordering}
use Rattle.modver.specs.Fits.{IsVersionOf}
use Rattle.modver.specs.Keys.{order_key_of, rank_key_of}
use Rattle.modver.specs.Precedence.{IsBelow, precedence}
use Rattle.modver.specs.Rank.{IsAbove, rank_cmp}
use Rattle.modver.specs.SemVerOrder.{IsLexicallyLower}
use Rattle.modver.specs.SemanticVersion.{IsVersion, SemanticVersion}

-- the order of bytes, by which a database sorts keys
abbrev pub bytes_cmp : List ℕ → List ℕ → Ordering
bytes_cmp = slice_cmp nat_cmp

-- one key is lower than another: at the first byte that differs, or because the other is the longer and begins with it
abbrev pub IsLowerKey : List ℕ → List ℕ → Type 0
IsLowerKey = IsLexicallyLower (λ (a : ℕ) (b : ℕ). a < b)

-- a version without its mark
abbrev pub unmarked : SemanticVersion → SemanticVersion
unmarked v = record { major = v.major; minor = v.minor; patch = v.patch; identifiers = v.identifiers; marked = false }

-- two keys of order compare as the versions do by precedence, and are equal exactly if the versions differ at most in
-- the mark
pub record KeysAreInPrecedence (u v : SemanticVersion) : Type 0 where
  pub compared : bytes_cmp (order_key_of u) (order_key_of v) ≡ precedence u v
  pub below : IsLowerKey (order_key_of u) (order_key_of v) ↔ IsBelow u v
  pub same : (order_key_of u ≡ order_key_of v) ↔ (unmarked u ≡ unmarked v)

abbrev pub OrderKeyIsPrecedence : Type 0
OrderKeyIsPrecedence = (u v : SemanticVersion) → IsVersion u → IsVersion v → KeysAreInPrecedence u v

-- two keys of rank compare as the versions do by rank, and are equal exactly if the versions differ at most in the mark
pub record KeysAreInRank (u v : SemanticVersion) : Type 0 where
  pub compared : bytes_cmp (rank_key_of u) (rank_key_of v) ≡ rank_cmp u v
  pub above : IsLowerKey (rank_key_of v) (rank_key_of u) ↔ IsAbove u v
  pub same : (rank_key_of u ≡ rank_key_of v) ↔ (unmarked u ≡ unmarked v)

abbrev pub RankKeyIsRank : Type 0
RankKeyIsRank = (u v : SemanticVersion) → IsVersion u → IsVersion v → KeysAreInRank u v

-- two versions are equal if their keys of order are equal, and also if their keys of rank are
pub record HaveOwnKeys (u v : SemanticVersion) : Type 0 where
  pub order : order_key_of u ≡ order_key_of v → u ≡ v
  pub rank : rank_key_of u ≡ rank_key_of v → u ≡ v

-- no two versions that fit one path have equal keys
abbrev pub KeysAreOneToOneAtAPath : Type 0
KeysAreOneToOneAtAPath = (path : List ℕ) (u v : SemanticVersion) → IsVersionOf path u → IsVersionOf path v
    → HaveOwnKeys u v
