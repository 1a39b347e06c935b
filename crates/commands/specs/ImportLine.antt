-- The lines that an import prints.
use Rattle.std.specs.Prelude.{ℕ, ◌++◌, List, codes, decimal, Bool, false}
use Rattle.wire.specs.Reply.{line_bytes, fixed_status}
pub use Rattle.commands.specs.Printed.{PrintsFront}
use Rattle.commands.specs.Publish.{accepts}
use Rattle.commands.specs.declared.import_line.RowOutcome.{RowOutcome}
use Rattle.commands.specs.declared.import_line.RowOutcome.TheVariants.{NoFile, Answered}

abbrev pub outcome_text : RowOutcome → List ℕ
outcome_text NoFile = codes "no file"
outcome_text (Answered answer) = line_bytes answer

abbrev pub accepts_outcome : RowOutcome → Bool
accepts_outcome NoFile = false
accepts_outcome (Answered answer) = accepts (fixed_status answer)

-- a number, a space and a text, on a line
abbrev pub numbered : ℕ → List ℕ → List ℕ
numbered n text = (decimal n ++ codes " ") ++ (text ++ codes "\n")
