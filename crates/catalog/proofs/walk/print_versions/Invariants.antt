use Rattle.std.proofs.Common.{◌≡◌, ◌≤◌, Option, drop}
use Rattle.std.specs.Prelude.{map}
use Rattle.gomod.specs.Module.{GoModule}
use Rattle.catalog.specs.Catalog.{is_retracted_by, line_at, lines_by, marks_of}
use Rattle.catalog.specs.Meanwhile.{past}
use Rattle.catalog.proofs.Printed.{Streams}
use Rattle.catalog.proofs.walk.print_versions.Given as goal

-- the lines of the versions so far were printed, and those of the others are left
abbrev pub invariant-loop-version : goal.invariant-loop-version
invariant-loop-version g l =
    let s = g.S.Shelves in
    record {
      index : l.index ≡ l.version-index;
      streams : (m : Option GoModule) → l.account.retracted.items ≡ map (is_retracted_by m) l.versions
          → Streams (λ w v. line_at w l.shelf l.path v (marks_of m l.account.latest v))
          (λ w. lines_by w l.shelf l.path m l.account.latest l.versions) (λ w. l.versions)
          (past (s.shown l.fn.shelves) l.fn.news l.shelf) (past (s.shown l.shelves) l.news l.shelf)
          (g.O.Write.contents l.fn.output) (g.O.Write.contents l.output) (drop l.version-index l.versions);
      went : g.T.Turns.went l.fn.turns l.turns l.fn.shelves l.shelves;
      later : (g.O.Tell.writes l.fn.output).failed ≤ (g.O.Tell.writes l.output).failed;
    }
