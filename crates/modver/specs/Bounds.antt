-- What a bound keeps of the pre-release and the mark of a version.
use Rattle.std.specs.Prelude.{ℕ, ◌≡◌, ◌≤◌, Bool, false, List, length, Option, Some, None}
use Rattle.std.specs.Cmp.Lexicographic.{slice_cmp}
use Rattle.std.specs.Ordering.{nat_cmp}
use Rattle.std.specs.declared.alloc.Global.{Global}
use Rattle.std.specs.declared.cmp.Ordering.{Ordering}
use Rattle.std.specs.declared.cmp.Ordering.TheVariants.{Equal}
use Rattle.std.specs.declared.rc.Rc.{Rc}
use Rattle.modver.specs.Keys.{AreBytes, head_of, identifiers_in, identifiers_in_head, padded, pre_release_key}
use Rattle.modver.specs.SemanticVersion.{IsVersion, SemanticVersion}
use Rattle.modver.specs.declared.bound.Bound.TheInside.{Inside}
use Rattle.modver.specs.declared.tail.Tail.{Tail}

-- the identifiers in the tail, or in the head if there is no tail
abbrev pub identifiers_at_end : ℕ → Option (Rc Tail Global) → List (List ℕ)
identifiers_at_end head None = identifiers_in_head head
identifiers_at_end head (Some tail) = identifiers_in tail.value.key.items

abbrev pub mark_in : Option (Rc Tail Global) → Bool
mark_in None = false
mark_in (Some tail) = tail.value.marked

-- the version of a bound
abbrev pub version_in : Inside → SemanticVersion
version_in b = record {
  major = b.major;
  minor = b.minor;
  patch = b.patch;
  identifiers = identifiers_at_end b.head b.tail;
  marked = mark_in b.tail;
}

-- a tail has the whole key; without a tail, the key has no more bytes than a head
abbrev pub HasKey : Option (Rc Tail Global) → List ℕ → Type 0
HasKey None key = length key ≤ 8
HasKey (Some tail) key = tail.value.key.items ≡ key

-- the head of the key of order behind the three numbers, and the tail, if they have these identifiers
pub record AreEnds (head : ℕ) (tail : Option (Rc Tail Global)) (identifiers : List (List ℕ)) : Type 0 where
  pub front : head ≡ head_of (pre_release_key identifiers)
  pub bytes : AreBytes (padded 8 (pre_release_key identifiers))
  pub whole : HasKey tail (pre_release_key identifiers)

pub record IsBound (b : Inside) : Type 0 where
  pub valid : IsVersion (version_in b)
  pub ends : AreEnds b.head b.tail (version_in b).identifiers

-- ---- comparison

-- the order of two bounds whose heads are equal
abbrev pub tails_cmp : Option (Rc Tail Global) → Option (Rc Tail Global) → Ordering
tails_cmp (Some left) (Some right) = slice_cmp nat_cmp left.value.key.items right.value.key.items
tails_cmp (Some left) None = Equal
tails_cmp None right = Equal
