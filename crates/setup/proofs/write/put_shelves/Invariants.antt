use Rattle.std.proofs.Common.{◌≡◌, true, take}
use Rattle.sqlite.specs.Held.{state}
use Rattle.setup.specs.Parts.{Puts, PutsShelves}
use Rattle.setup.proofs.write.put_shelves.Given as goal

-- the shelves so far were put in
abbrev pub invariant-loop-shelf : goal.invariant-loop-shelf
invariant-loop-shelf g l =
    (l.tx.conn.ghost_name ≡ l.fn.tx.conn.ghost_name)
    × Puts (PutsShelves (take l.shelf-index l.shelves)) (state g.F.Store l.fn.tx.conn.now)
    (state g.F.Store l.tx.conn.now) true
