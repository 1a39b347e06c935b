use Rattle.std.proofs.Common.{[], sym, subst}
use Rattle.statements.specs.Shelves.{ListsRows}
use Rattle.statements.proofs.ShelfListLemmas.{no_rows, rows_at}
use Rattle.statements.proofs.shelves.list_rows.Goals as goal

pub loop-row-init : goal.loop-row-init
loop-row-init c = subst (ListsRows []) (sym c.in_ok-list.ensures) no_rows

pub loop-row-preserved : goal.loop-row-preserved
loop-row-preserved c =
    rows_at c.args.rows.now c.loop-row.row-index _ c.loop-row.list c.in_ok-list-2.list c.in_ok-read_shelf.field-0
    c.loop-row-test.true c.row-item.is c.in_ok-read_shelf.ensures c.in_ok-list-2.ensures c.loop-row.invariant
