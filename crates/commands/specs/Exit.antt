-- How a run ends, and what it writes about that.
use Rattle.std.specs.Prelude.{ℕ, List, ◌≡◌, ◌++◌, codes, Bool, true, false, Option, Result, Ok, Err}
use Rattle.commands.specs.Ending.{word}
use Rattle.histories.specs.Calls.{Writes}
use Rattle.commands.specs.Printed.{PrintsUnlessFailed}
use Rattle.commands.specs.declared.refusal.CommandRefusal.{CommandRefusal}
use Rattle.commands.specs.declared.exit.Exit.{Exit}
use Rattle.commands.specs.declared.exit.Exit.TheVariants.{Done, NotAccepted, Refused, BadUsage}

-- how a run ends by the result of its command: that it is accepted, that it is done and not accepted, or why it was
-- refused
abbrev pub exit_of : Result Bool CommandRefusal → Exit
exit_of (Ok true) = Done
exit_of (Ok false) = NotAccepted
exit_of (Err why) = Refused why

-- the exit status
abbrev pub status_of : Exit → ℕ
status_of Done = 0
status_of NotAccepted = 1
status_of (Refused why) = 1
status_of BadUsage = 2

-- the line that says why a command was refused
abbrev pub refusal_line : CommandRefusal → List ℕ
refusal_line why = codes "goshelf: " ++ (word why ++ codes "\n")

-- what was written to the errors and the calls that wrote there, before and after
module _ (errors errors_new : Option (List ℕ) × Writes) where
  -- nothing was written to the errors, except the parser's text about bad usage
  abbrev pub IsSilent : Exit → Type 0
  IsSilent BadUsage = Unit {0}
  IsSilent other = errors_new ≡ errors

  -- If the command was refused, the line of its word was written to the errors, or a beginning of it and a write failed.
  -- Otherwise nothing was.
  abbrev pub Says : Exit → Type 0
  Says (Refused why) = PrintsUnlessFailed errors errors_new (refusal_line why)
  Says other = errors_new ≡ errors
