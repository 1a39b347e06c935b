use Rattle.std.proofs.Common.{drop}
use Rattle.commands.specs.Inventory.{lines_of, row_at, rows_of_path}
use Rattle.commands.specs.Lines.{IsBetweenLines, text_in}
use Rattle.keyring.proofs.Gathered.{HoldsThroughout, Gathers}
use Rattle.commands.proofs.inventory.add_path.Given as goal

-- the lines of the versions so far are written, and those of the other versions are left
abbrev pub invariant-loop-version : goal.invariant-loop-version
invariant-loop-version g l =
    let s = g.S.Shelves in
    record {
      between : IsBetweenLines l.lines;
      gathers : HoldsThroughout (s.shown l.fn.shelves) (s.shown l.shelves)
          (Gathers (λ w v. lines_of (row_at w l.shelf l.path v)) (text_in l.fn.lines)
          (λ w. lines_of (rows_of_path w l.shelf l.path)) (text_in l.lines) (drop l.version-index l.version-items));
    }
