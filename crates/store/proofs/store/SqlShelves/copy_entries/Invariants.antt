use Rattle.std.proofs.Common.{◌≡◌, true}
use Rattle.sqlite.specs.State.{HasCleanDisk}
use Rattle.sqlite.specs.Held.{state}
use Rattle.slices.specs.Slices.{HoldsUpTo}
use Rattle.statements.specs.Rows.{GoesOn}
use Rattle.world.specs.World.{World}
use Rattle.store.specs.Between.{HoldsIn}
use Rattle.store.specs.Shown.{shown_with}
use Rattle.store.proofs.store.SqlShelves.copy_entries.Given as goal

-- the store had turns, and the transaction holds what comes before the cursor
abbrev pub invariant-loop : goal.invariant-loop
invariant-loop g l =
    let first = state g.S.Store l.fn.self.conn in
    let now = state g.S.Store l.self.conn in
    let begun = state g.F.Store l.fn.tx.conn.now in
    let reached = state g.F.Store l.tx.conn.now in
    g.B.Between.went l.fn.between l.between l.fn.self l.self × (HasCleanDisk now → HasCleanDisk first)
    × (l.tx.conn.ghost_name ≡ l.fn.tx.conn.ghost_name) × GoesOn begun reached true
    × (HasCleanDisk now → HasCleanDisk reached → (w : World)
    → (shown_with first l.fn.self.kept l.fn.self.failures).stands w → HoldsUpTo w l.fn.at begun
    → HoldsIn (shown_with now l.self.kept l.self.failures) w l.news l.at reached)
