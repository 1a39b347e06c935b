-- What is kept together.
use Rattle.std.proofs.Common.{◌≡◌, ◌==◌, List, [], length, Option, Some, None, true, sym}
use Rattle.std.specs.Prelude.{IfSome}
use Rattle.std.proofs.lemmas.Bool.{eqb-true}
use Rattle.std.proofs.lemmas.List.{nil_from_length}
use Rattle.world.specs.World.{World}
use Rattle.world.proofs.Counted.{empty_counts}
use Rattle.cache.specs.declared.caches.Caches.{Caches}
use Rattle.cache.specs.Caches.{AreKept, IsNothing}
use Rattle.cache.proofs.AbsenceLemmas.{none_absent}
use Rattle.cache.proofs.GroupLemmas.{no_groups}
use Rattle.cache.proofs.ListLemmas.{no_lists}
use Rattle.cache.proofs.RecentLemmas.{none_held}
use Rattle.cache.proofs.TotalLemmas.{no_total}
use Rattle.cache.proofs.ZipLemmas.{no_zips}

-- what holds of a value holds in another way
pub if_some : {X : Type 0} {P Q : X → Type 0} (o : Option X) → ((x : X) → P x → Q x) → IfSome o P → IfSome o Q
if_some None then holds = tt
if_some (Some x) then holds = then x holds

-- what `is_empty` says
pub no_items : {X : Type 0} (xs : List X) → true ≡ (length xs == 0) → xs ≡ []
no_items xs empty = nil_from_length xs (eqb-true (length xs) 0 (sym empty))

-- if nothing is kept, all that is kept is true
pub nothing_kept : (w : World) (kept : Caches) → IsNothing kept → AreKept w kept
nothing_kept w kept none = (
  (empty_counts w kept.counts none.0, no_total w kept.total none.6),
  no_lists w kept.lists none.1,
  (no_groups w kept.groups none.2, none_absent w kept.absences none.7),
  (no_zips w kept.zips none.3, none_held _ kept.headings none.4, none_held _ kept.keys none.5),
)
