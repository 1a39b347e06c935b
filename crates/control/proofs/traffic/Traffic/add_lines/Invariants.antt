use Rattle.std.specs.Prelude.{◌≡◌, ◌++◌, string_bytes}
use Rattle.std.specs.Prelude.{map as each}
use Rattle.std.specs.FinMap as map
use Rattle.std.specs.List.{flat_map}
use Rattle.control.specs.Traffic.{lines_of, shelf_line}
use Rattle.control.proofs.traffic.Traffic.add_lines.Given as goal

-- the lines of the shelves so far are there, and those of the other shelves are left
abbrev pub invariant-loop-shelf : goal.invariant-loop-shelf
invariant-loop-shelf l =
    string_bytes l.text ++ flat_map (λ shelf. shelf_line shelf (map.get l.self.shelves shelf))
    (each string_bytes l.shelf-iterator)
    ≡ string_bytes l.fn.text ++ lines_of l.self
