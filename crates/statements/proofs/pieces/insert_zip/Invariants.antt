use Rattle.std.proofs.Common.{◌≡◌, true, drop}
use Rattle.sqlite.specs.State.{HasCleanDisk}
use Rattle.sqlite.specs.Held.{state}
use Rattle.tables.specs.Pieces.{begin}
use Rattle.statements.specs.Rows.{Filling, GoesOn}
use Rattle.statements.specs.Added.{AddsUpTo}
use Rattle.statements.proofs.pieces.insert_zip.Given as goal

abbrev pub invariant-loop-number : goal.invariant-loop-number
invariant-loop-number g l =
    let old = state g.S.Store l.fn.tx.conn.now in
    let now = state g.S.Store l.tx.conn.now in
    (l.tx.conn.ghost_name ≡ l.fn.tx.conn.ghost_name) × GoesOn old now true × (l.rest ≡ drop (begin l.number) l.fn.zip)
    × (HasCleanDisk now → Filling old → AddsUpTo l.fn.id l.fn.zip l.number old.now.trees now.now.trees × Filling now)
