use Rattle.std.specs.Prelude.{map as each, string_bytes}
use Rattle.std.specs.FinMap as map
use Rattle.keyring.specs.KeyList.{key_lines, lines_of}
use Rattle.keyring.proofs.Gathered.{HoldsThroughout, Gathers}
use Rattle.keyring.proofs.key_list.add_keys.Given as goal

-- the lines of the keys so far are there, and those of the other keys are left
abbrev pub invariant-loop-key : goal.invariant-loop-key
invariant-loop-key g l =
    let s = g.S.Shelves in
    HoldsThroughout (s.shown l.fn.shelves) (s.shown l.shelves)
    (Gathers (λ w k. lines_of k (map.get w.keys k)) l.fn.lines.items key_lines l.lines.items
    (each string_bytes l.key-iterator))
