use Rattle.std.proofs.Common.{take}
use Rattle.statements.specs.Shelves.{ListsRows}
use Rattle.statements.proofs.shelves.list_rows.Given as goal

-- the list is that of the rows so far
abbrev pub invariant-loop-row : goal.invariant-loop-row
invariant-loop-row l = ListsRows (take l.row-index l.rows) l.list
