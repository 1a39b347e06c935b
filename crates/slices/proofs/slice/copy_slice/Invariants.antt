use Rattle.std.proofs.Common.{◌≡◌, true, IsTrue}
use Rattle.sqlite.specs.State.{HasCleanDisk}
use Rattle.sqlite.specs.Held.{state}
use Rattle.world.specs.World.{World}
use Rattle.tables.specs.Means.{Stands}
use Rattle.statements.specs.Calls.{Spares}
use Rattle.statements.specs.Rows.{GoesOn}
use Rattle.interleave.specs.Interleave.{IsSince}
use Rattle.slices.specs.Slices.{HoldsUpTo}
use Rattle.slices.proofs.slice.copy_slice.Given as goal

-- the source is as it was, and the fresh store holds what comes before the cursor
abbrev pub invariant-loop : goal.invariant-loop
invariant-loop g l =
    let old = state g.S.Store l.fn.source in
    let now = state g.S.Store l.source in
    let begun = state g.F.Store l.fn.tx.conn.now in
    let reached = state g.F.Store l.tx.conn.now in
    Spares old now × (HasCleanDisk now → (w : World) → Stands old w → IsTrue now.is_open)
    × (l.tx.conn.ghost_name ≡ l.fn.tx.conn.ghost_name) × GoesOn begun reached true
    × (HasCleanDisk now → HasCleanDisk reached → (w later : World) → Stands old later → IsSince w later l.fn.newcomers
    → HoldsUpTo w l.fn.at begun → HoldsUpTo w l.at reached)
