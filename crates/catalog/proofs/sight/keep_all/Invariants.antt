use Rattle.std.proofs.Common.{drop}
use Rattle.keyring.proofs.Gathered.{HoldsThroughout, Gathers}
use Rattle.catalog.specs.Sight.{all_kept, kept}
use Rattle.catalog.proofs.sight.keep_all.Given as goal

-- those of the versions so far are there, and the others are left
abbrev pub invariant-loop-version : goal.invariant-loop-version
invariant-loop-version g l =
    let s = g.S.Shelves in
    record {
      gathers : HoldsThroughout (s.shown l.fn.shelves) (s.shown l.shelves)
          (Gathers (λ w v. kept w l.news l.shelf l.path v) l.fn.kept.items
          (λ w. all_kept w l.news l.shelf l.path l.versions) l.kept.items (drop l.version-index l.versions));
    }
