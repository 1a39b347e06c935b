use Rattle.std.proofs.Common.{◌≡◌, ◌-◌, []}
use Rattle.control.specs.HealthText.{are_shelf_lines}
use Rattle.control.proofs.health_text.are_shelf_lines.Given as goal

-- the lines that are left tell whether all are such
abbrev pub invariant-loop : goal.invariant-loop
invariant-loop l = are_shelf_lines (l.count - l.counter) l.last l.rest ≡ are_shelf_lines l.count [] l.text
