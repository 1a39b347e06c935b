-- What is written to an operator.
use Rattle.std.specs.Prelude.{ℕ, List}
use Rattle.orders.specs.Outcome.{line_of}
use Rattle.control.specs.declared.control_reply.ControlReply.{ControlReply}
use Rattle.control.specs.declared.control_reply.ControlReply.TheVariants as told

abbrev pub bytes_told : ControlReply → List ℕ
bytes_told (told.Outcome outcome) = line_of outcome
bytes_told (told.Health line) = line
bytes_told (told.List lines) = lines

-- it is the outcome of an order
abbrev pub IsOutcome : ControlReply → Type 0
IsOutcome (told.Outcome outcome) = Unit {0}
IsOutcome (told.Health line) = ⊥
IsOutcome (told.List lines) = ⊥
