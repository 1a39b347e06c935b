-- Versions in order of precedence, and the versions of a path that a shelf sees.
use Rattle.std.specs.Prelude.{ℕ, ◌↔◌, List, [], ◌∷◌, ◌++◌, Contains, Option, Some, None}
use Rattle.std.proofs.lemmas.Cmp.{nat_list_cmp_total, on_total, then_total}
use Rattle.std.specs.Cmp.{IsTotalOrder}
use Rattle.std.specs.Cmp.Lexicographic.{slice_cmp}
use Rattle.std.specs.FinMap as map
use Rattle.std.specs.FinSet as set
use Rattle.std.specs.Ordering.{nat_cmp, on, then_cmp}
use Rattle.std.specs.declared.cmp.Ordering.{Ordering}
use Rattle.modver.proofs.StrictOrders.{precedence_total}
use Rattle.modver.specs.Precedence.{IsBelow, precedence}
use Rattle.modver.specs.Reading.{version_of}
use Rattle.modver.specs.SemanticVersion.{SemanticVersion, version_text}
use Rattle.world.specs.Lines.{in_order, EachToNext}
use Rattle.world.specs.Visible.{seen_versions, versions_among, versions_seen}
use Rattle.world.specs.World.{World, IsWorld}

-- ---- the versions that texts name

-- the versions with one more in front, if there is one
abbrev pub with_version : Option SemanticVersion → List SemanticVersion → List SemanticVersion
with_version None vs = vs
with_version (Some v) vs = v ∷ vs

-- the versions that the texts name, in the order of the texts
abbrev pub named : List (List ℕ) → List SemanticVersion
named [] = []
named (t ∷ ts) = with_version (version_of t) (named ts)

-- ---- by precedence

-- the order of versions: by precedence, and by their texts where that is equal
abbrev pub version_cmp : SemanticVersion → SemanticVersion → Ordering
version_cmp = then_cmp precedence (on version_text (slice_cmp nat_cmp))

-- this order of versions is total
pub versions_total : IsTotalOrder version_cmp
versions_total = then_total precedence_total (on_total version_text nat_list_cmp_total)

-- the versions of a list as a set in this order, each once
abbrev pub by_precedence : List SemanticVersion → set.FinSet version_cmp
by_precedence [] = set.empty
by_precedence (v ∷ vs) = set.insert (by_precedence vs) v

-- the versions of a path that the texts on these shelves name, shelf by shelf
abbrev pub named_on : World → List (List ℕ) → List ℕ → List SemanticVersion
named_on w [] p = []
named_on w (s ∷ ss) p = named (in_order (versions_among s p (map.entries w.entries))) ++ named_on w ss p

-- the versions of a path that a shelf sees, in ascending precedence
abbrev pub versions_of : World → List ℕ → List ℕ → List SemanticVersion
versions_of w s p = in_order (by_precedence (named (in_order (versions_seen w s p))))

-- these are the versions of a path that a shelf sees, each below the next
pub record AreVersions (w : World) (s p : List ℕ) (vs : List SemanticVersion) : Type 0 where
  pub members : (v : SemanticVersion) → Contains vs v ↔ seen_versions w s p v
  pub ascend : EachToNext IsBelow vs

-- In a world, the list of the versions that a shelf sees has exactly those, each below the next.
abbrev pub VersionsAscend : Type 0
VersionsAscend = (w : World) (s p : List ℕ) → IsWorld w → AreVersions w s p (versions_of w s p)
