use Rattle.std.specs.Prelude.{map as each, string_bytes}
use Rattle.commands.specs.Inventory.{lines_of, rows_of_text, rows_seen}
use Rattle.commands.specs.Lines.{IsBetweenLines, text_in}
use Rattle.keyring.proofs.Gathered.{HoldsThroughout, Gathers}
use Rattle.commands.proofs.inventory.add_paths.Given as goal

-- the lines of the paths so far are written, and those of the other paths are left
abbrev pub invariant-loop-text : goal.invariant-loop-text
invariant-loop-text g l =
    let s = g.S.Shelves in
    record {
      between : IsBetweenLines l.lines;
      gathers : HoldsThroughout (s.shown l.fn.shelves) (s.shown l.shelves)
          (Gathers (λ w t. lines_of (rows_of_text w l.shelf t)) (text_in l.fn.lines)
          (λ w. lines_of (rows_seen w l.shelf)) (text_in l.lines) (each string_bytes l.text-iterator));
    }
