use Rattle.std.proofs.Common.{◌≤◌}
use Rattle.std.specs.Prelude.{map as each, string_bytes}
use Rattle.world.specs.Lines.{in_order}
use Rattle.world.specs.Visible.{paths_seen}
use Rattle.catalog.specs.Catalog.{lines_of_text, lines_seen}
use Rattle.catalog.specs.Meanwhile.{past, there}
use Rattle.catalog.proofs.Printed.{Streams}
use Rattle.catalog.proofs.walk.print_all.Given as goal

-- the lines of the paths so far were printed, and those of the others are left
abbrev pub invariant-loop-text : goal.invariant-loop-text
invariant-loop-text g l =
    let s = g.S.Shelves in
    record {
      streams : Streams (λ w t. lines_of_text w l.shelf t) (λ w. lines_seen w l.shelf)
          (λ w. in_order (paths_seen w l.shelf))
          (there (s.shown l.fn.shelves) l.shelf) (past (s.shown l.shelves) l.news l.shelf)
          (g.O.Write.contents l.fn.output) (g.O.Write.contents l.output) (each string_bytes l.text-iterator);
      went : g.T.Turns.went l.fn.turns l.turns l.fn.shelves l.shelves;
      later : (g.O.Tell.writes l.fn.output).failed ≤ (g.O.Tell.writes l.output).failed;
    }
