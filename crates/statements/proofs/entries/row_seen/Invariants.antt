use Rattle.std.proofs.Common.{◌≡◌, drop}
use Rattle.sqlite.specs.Held.{state}
use Rattle.world.specs.World.{first_on}
use Rattle.statements.specs.Calls.{InEachWorld, Spares}
use Rattle.statements.proofs.HeadingLemmas.{texts_of}
use Rattle.statements.proofs.entries.row_seen.Given as goal

-- what the shelves that remain have is what all of them have
abbrev pub invariant-loop-shelf : goal.invariant-loop-shelf
invariant-loop-shelf g l =
    Spares (state g.S.Store l.fn.conn) (state g.S.Store l.conn)
    × InEachWorld (state g.S.Store l.fn.conn) (state g.S.Store l.conn) (λ old new w. (new.now ≡ old.now)
    × (first_on w (texts_of (drop l.shelf-index l.shelves)) l.path l.version
    ≡ first_on w (texts_of l.shelves) l.path l.version))
