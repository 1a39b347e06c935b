use Rattle.std.proofs.Common.{◌≡◌, List, ℕ, take}
use Rattle.sqlite.specs.Order.{Row}
use Rattle.sqlite.specs.State.{HasCleanDisk}
use Rattle.sqlite.specs.Held.{state}
use Rattle.sqlite.specs.Given.{HasGiven}
use Rattle.world.specs.World.{World}
use Rattle.tables.specs.Means.{Stands}
use Rattle.tables.specs.Pieces.{begin}
use Rattle.statements.specs.Calls.{Spares}
use Rattle.statements.specs.Reading.{IsZip}
use Rattle.statements.proofs.ZipLemmas.{zip_text, zip_params, AreBelow}
use Rattle.statements.proofs.pieces.find_zip.Given as goal

abbrev pub invariant-loop-number : goal.invariant-loop-number
invariant-loop-number g l =
    let old = state g.S.Store l.fn.conn in
    let now = state g.S.Store l.rows.conn.now in
    (l.rows.conn.ghost_name ≡ l.initial.rows.conn.ghost_name) × Spares old now
    × (HasCleanDisk now → (w : World) → Stands old w → (now.now ≡ old.now)
    × (given : List Row) × HasGiven g.S.Store zip_text (zip_params l.fn.id) l.rows.conn.now given
    × AreBelow given l.number
    × ((zip : List ℕ) → IsZip old.now.trees l.fn.id zip → l.zip.items ≡ take (begin l.number) zip))
