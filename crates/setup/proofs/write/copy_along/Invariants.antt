use Rattle.std.proofs.Common.{◌≡◌, ◌∷◌, true, take}
use Rattle.sqlite.specs.Held.{state}
use Rattle.world.specs.World.{common}
use Rattle.statements.specs.Extract.{Copies, Along}
use Rattle.statements.specs.Shelves.{names_of}
use Rattle.setup.specs.Parts.{CopiesRows}
use Rattle.setup.proofs.write.copy_along.Given as goal

-- the rows of `common` and of the shelves so far were copied
abbrev pub invariant-loop-shelf : goal.invariant-loop-shelf
invariant-loop-shelf g l =
    (l.tx.conn.ghost_name ≡ l.fn.tx.conn.ghost_name)
    × Copies (Along (CopiesRows l.rows) (common ∷ names_of (take l.shelf-index l.shelves)))
    (state g.S.Store l.fn.source)
    (state g.S.Store l.source) (state g.F.Store l.fn.tx.conn.now) (state g.F.Store l.tx.conn.now) true
