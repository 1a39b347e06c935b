use Rattle.std.proofs.Common.{◌≡◌, map, take}
use Rattle.sqlite.specs.Held.{state}
use Rattle.world.specs.Visible.{paths_on}
use Rattle.statements.specs.Calls.{InEachWorld, Spares}
use Rattle.statements.proofs.visible.find_paths.Given as goal

-- the texts are those on the shelves so far
abbrev pub invariant-loop-shelf : goal.invariant-loop-shelf
invariant-loop-shelf g l =
    Spares (state g.S.Store l.fn.conn) (state g.S.Store l.conn)
    × InEachWorld (state g.S.Store l.fn.conn) (state g.S.Store l.conn)
    (λ _ _ w. l.texts ≡ paths_on w (map (λ s. s.now) (take l.shelf-index l.shelves)))
