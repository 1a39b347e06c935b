use Rattle.std.proofs.Common.{◌≡◌, ℕ, List, true, IsTrue}
use Rattle.sqlite.specs.State.{HasCleanDisk}
use Rattle.sqlite.specs.Tree.{Trees}
use Rattle.sqlite.specs.Held.{state}
use Rattle.world.specs.World.{World}
use Rattle.tables.specs.Means.{Stands}
use Rattle.statements.specs.Calls.{Spares}
use Rattle.statements.specs.Reading.{IsZip}
use Rattle.statements.specs.Rows.{Filling, GoesOn}
use Rattle.statements.specs.Added.{AddsUpTo}
use Rattle.slices.proofs.pieces.copy_pieces.Given as goal

-- the source is as it was, and the pieces so far were put in
abbrev pub invariant-loop-number : goal.invariant-loop-number
invariant-loop-number g l =
    let old = state g.S.Store l.fn.source in
    let now = state g.S.Store l.source in
    let begun = state g.F.Store l.fn.tx.conn.now in
    let at = state g.F.Store l.tx.conn.now in
    Spares old now
    × (HasCleanDisk now → (w : World) → Stands old w → (now.now ≡ old.now) × (IsTrue old.is_open → IsTrue now.is_open))
    × (l.tx.conn.ghost_name ≡ l.fn.tx.conn.ghost_name) × GoesOn begun at true
    × (HasCleanDisk now → HasCleanDisk at → (w : World) → Stands old w → (zip : List ℕ)
    → IsZip old.now.trees l.fn.id zip
    → (mid : Trees) → AddsUpTo l.fn.id zip l.fn.first mid begun.now.trees → Filling begun
    → AddsUpTo l.fn.id zip l.number mid at.now.trees × Filling at)
