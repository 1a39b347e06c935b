use Rattle.std.proofs.Common.{◌≡◌, ◌≤◌, ◌-◌, ◌^◌, true, List, [], length}
use Rattle.sqlite_trees.specs.View.{doubt}
use Rattle.sqlite.specs.Order.{Row}
use Rattle.sqlite.specs.State.{HasCleanDisk, IsUnchanged, Survives}
use Rattle.sqlite.specs.Held.{state}
use Rattle.sqlite.specs.Given.{HasGiven}
use Rattle.older.specs.Schemas.{schema_of}
use Rattle.statements.specs.Rows.{Filling, GoesOn}
use Rattle.older_rows.specs.Visits.{Visits}
use Rattle.older_rows.proofs.walk.visit_rows.Given as goal

abbrev pub invariant-rows : goal.invariant-rows
invariant-rows g l =
    let old = state g.S.Store l.fn.source in
    let now = state g.S.Store l.rows.conn.now in
    let begun = state g.F.Store l.fn.tx.conn.now in
    let at = state g.F.Store l.tx.conn.now in
    (l.rows.conn.ghost_name ≡ l.initial.rows.conn.ghost_name) × (doubt old.is_clean ≤ doubt now.is_clean)
    × (old.now.schema ≡ schema_of l.fn.format → Survives old now (λ _. ⊥))
    × (HasCleanDisk now → old.now.schema ≡ schema_of l.fn.format → IsUnchanged old now)
    × (l.tx.conn.ghost_name ≡ l.fn.tx.conn.ghost_name) × GoesOn begun at true
    × (HasCleanDisk now → HasCleanDisk at → old.now.schema ≡ schema_of l.fn.format → Filling begun
    → Filling at × (given : List Row) × HasGiven g.S.Store l.fn.sql [] l.rows.conn.now given
    × Visits g.V.Visit.Puts l.fn.visitor begun.now.trees given l.visitor at.now.trees)
    × (HasCleanDisk now → old.now.schema ≡ schema_of l.fn.format
    → (given : List Row) × HasGiven g.S.Store l.fn.sql [] l.rows.conn.now given × (length given ≡ l._turn))

abbrev pub decreases-rows : goal.decreases-rows
decreases-rows g l = 2 ^ 128 - l._turn
