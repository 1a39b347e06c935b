use Rattle.std.proofs.Common.{◌≡◌, List, IsTrue}
use Rattle.sqlite.specs.Order.{Row}
use Rattle.sqlite.specs.State.{HasCleanDisk}
use Rattle.sqlite.specs.Held.{state}
use Rattle.sqlite.specs.Given.{HasGiven}
use Rattle.sqlite.specs.Values.{bound}
use Rattle.world.specs.World.{World}
use Rattle.tables.specs.Means.{Stands}
use Rattle.statements.specs.Calls.{Spares}
use Rattle.statements.specs.Lists.{AddsTexts}
use Rattle.statements.proofs.visible.add_texts.Given as goal

-- the texts of the rows that were given were added
abbrev pub invariant-loop : goal.invariant-loop
invariant-loop g l =
    let old = state g.S.Store l.fn.conn in
    let now = state g.S.Store l.rows.conn.now in
    (l.rows.conn.ghost_name ≡ l.initial.rows.conn.ghost_name) × Spares old now
    × (HasCleanDisk now → (w : World) → Stands old w → (now.now ≡ old.now) × IsTrue old.is_open
    × (given : List Row) × HasGiven g.S.Store l.sql (bound l.params) l.rows.conn.now given
    × AddsTexts given l.fn.texts l.texts)
