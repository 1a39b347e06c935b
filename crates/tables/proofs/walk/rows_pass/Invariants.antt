use Rattle.std.proofs.Common.{◌≡◌, ◌≤◌, ◌-◌, ◌^◌, List, [], length}
use Rattle.sqlite_trees.specs.View.{doubt}
use Rattle.sqlite.specs.Order.{Row}
use Rattle.sqlite.specs.State.{HasCleanDisk, IsUnchanged, Survives}
use Rattle.sqlite.specs.Held.{state}
use Rattle.sqlite.specs.Given.{HasGiven}
use Rattle.tables.specs.Schema.{store_schema}
use Rattle.tables.specs.Walks.{Pass}
use Rattle.tables.proofs.walk.rows_pass.Given as goal

abbrev pub invariant-rows : goal.invariant-rows
invariant-rows g l =
    let old = state g.S.Store l.fn.conn in
    let now = state g.S.Store l.rows.conn.now in
    (l.rows.conn.ghost_name ≡ l.initial.rows.conn.ghost_name) × (doubt old.is_clean ≤ doubt now.is_clean)
    × (old.now.schema ≡ store_schema → Survives old now (λ _. ⊥))
    × (HasCleanDisk now → old.now.schema ≡ store_schema
    → (given : List Row) × HasGiven g.S.Store l.fn.sql [] l.rows.conn.now given
    × Pass g.T.RowTest.Fits g.T.RowTest.Keeps l.fn.test given l.test × IsUnchanged old now
    × (length given ≡ l._turn))

abbrev pub decreases-rows : goal.decreases-rows
decreases-rows g l = 2 ^ 128 - l._turn
