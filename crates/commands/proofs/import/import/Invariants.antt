use Rattle.std.proofs.Common.{◌≡◌, ◌+◌, ◌≤◌, List, [], length}
use Rattle.std.specs.Io.KnownBytes.{Appends}
use Rattle.std.specs.List.{list_all}
use Rattle.commands.specs.Import.{GoesThrough, DoneRow, is_accepted, lines_from, rows_of}
use Rattle.commands.specs.ImportList.{HasRead}
use Rattle.commands.proofs.import.import.Given as goal

-- these rows were done so far, their lines are printed and flushed, and the next one has this number
abbrev pub invariant-loop-number : goal.invariant-loop-number
invariant-loop-number g l =
    let s = g.S.Shelves in
    (done_rows : List DoneRow) × record {
      through : GoesThrough (s.shown l.fn.shelves) (s.shown l.shelves)
          (g.F.Sources.history l.fn.sources) (g.F.Sources.history l.sources) l.key done_rows;
      read : HasRead g.L.Read.remaining (g.L.Read.remaining l.fn.list) (rows_of done_rows) l.reader;
      printed : Appends (g.O.Write.contents l.fn.output) (g.O.Write.contents l.output) (lines_from 1 done_rows);
      accepted : l.accepted ≡ list_all is_accepted done_rows;
      count : l.number ≡ length done_rows + 1;
      later : (g.O.Tell.writes l.fn.output).failed ≤ (g.O.Tell.writes l.output).failed;
      flushed : (g.O.Tell.writes l.fn.output).unflushed ≡ [] → (g.O.Tell.writes l.output).unflushed ≡ [];
    }
