use Rattle.std.specs.Prelude.{map as each, string_bytes}
use Rattle.std.specs.FinMap as map
use Rattle.keyring.specs.ShelfList.{line_in, shelf_text}
use Rattle.keyring.proofs.Gathered.{HoldsThroughout, Gathers}
use Rattle.keyring.proofs.shelf_list.add_shelves.Given as goal

-- the lines of the shelves so far are there, and those of the other shelves are left
abbrev pub invariant-loop-name : goal.invariant-loop-name
invariant-loop-name g l =
    let s = g.S.Shelves in
    HoldsThroughout (s.shown l.fn.shelves) (s.shown l.shelves)
    (Gathers (λ w s. line_in s (map.get w.shelves s)) l.fn.text.items shelf_text l.text.items
    (each string_bytes l.name-iterator))
