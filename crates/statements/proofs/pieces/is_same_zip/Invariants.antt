use Rattle.std.proofs.Common.{◌≡◌, ◌++◌, List, ℕ, take}
use Rattle.sqlite.specs.State.{HasCleanDisk}
use Rattle.sqlite.specs.Held.{state}
use Rattle.world.specs.World.{World}
use Rattle.tables.specs.Means.{Stands}
use Rattle.tables.specs.Pieces.{begin}
use Rattle.statements.specs.Calls.{Spares}
use Rattle.statements.specs.Reading.{IsZip}
use Rattle.statements.proofs.pieces.is_same_zip.Given as goal

abbrev pub invariant-loop-number : goal.invariant-loop-number
invariant-loop-number g l =
    let old = state g.S.Store l.fn.conn in
    let now = state g.S.Store l.conn in
    Spares old now
    × (HasCleanDisk now → (w : World) → Stands old w
    → (now.now ≡ old.now) × ((there : List ℕ) → IsZip old.now.trees l.fn.id there
    → l.fn.zip ≡ take (begin l.number) there ++ l.rest))
