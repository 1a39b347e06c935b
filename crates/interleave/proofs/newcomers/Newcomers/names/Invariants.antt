use Rattle.std.proofs.Common.{◌≡◌, ℕ, List}
use Rattle.std.specs.FinSet as set
use Rattle.world.specs.World.{place}
use Rattle.interleave.proofs.NamedLemmas.{is_among}
use Rattle.interleave.proofs.newcomers.Newcomers.names.Given as goal

-- none of the places so far has the path and the version
abbrev pub invariant-loop-place : goal.invariant-loop-place
invariant-loop-place l = record {
  left : (s : List ℕ)
      → set.contains l.self (place s l.path l.version) ≡ is_among l.path l.version l.place-iterator s;
}
