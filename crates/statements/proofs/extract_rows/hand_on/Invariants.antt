use Rattle.std.proofs.Common.{◌≡◌, ◌≤◌, ◌-◌, ◌^◌, true, List}
use Rattle.sqlite_trees.specs.View.{doubt}
use Rattle.sqlite.specs.Order.{Row}
use Rattle.sqlite.specs.State.{HasCleanDisk, IsUnchanged, Survives}
use Rattle.sqlite.specs.Held.{state}
use Rattle.sqlite.specs.Given.{HasGiven}
use Rattle.sqlite.specs.Values.{bound}
use Rattle.world.specs.World.{World}
use Rattle.tables.specs.Schema.{store_schema}
use Rattle.tables.specs.Means.{Means}
use Rattle.tables.specs.Walks.{Pass}
use Rattle.statements.specs.Rows.{Filling, GoesOn}
use Rattle.statements.proofs.extract_rows.hand_on.Given as goal

abbrev pub invariant-rows : goal.invariant-rows
invariant-rows g l =
    let old = state g.S.Store l.fn.source in
    let now = state g.S.Store l.rows.conn.now in
    let begun = state g.F.Store l.fn.tx.conn.now in
    let at = state g.F.Store l.tx.conn.now in
    (l.rows.conn.ghost_name ≡ l.initial.rows.conn.ghost_name) × (doubt old.is_clean ≤ doubt now.is_clean)
    × (old.now.schema ≡ store_schema → Survives old now (λ _. ⊥))
    × (HasCleanDisk now → old.now.schema ≡ store_schema → IsUnchanged old now)
    × (l.tx.conn.ghost_name ≡ l.fn.tx.conn.ghost_name) × GoesOn begun at true
    × (HasCleanDisk now → HasCleanDisk at → old.now.schema ≡ store_schema → (w : World) → Means old.now.trees w
    → Filling begun
    → Filling at × (given : List Row) × HasGiven g.S.Store l.fn.sql (bound l.fn.params) l.rows.conn.now given
    × Pass (λ _ row. g.T.RowSink.Fits row) (λ db row after. g.T.RowSink.Puts row db after) begun.now.trees given
    at.now.trees)

abbrev pub decreases-rows : goal.decreases-rows
decreases-rows g l = 2 ^ 128 - l._turn
