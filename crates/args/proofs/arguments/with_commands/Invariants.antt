use Rattle.std.proofs.Common.{◌≡◌, drop, map}
use Rattle.std.specs.Prelude.{fold}
use Rattle.clap.specs.Words.{app_of, with_subcommand}
use Rattle.args.specs.Table.{table_line, shape_of_line, with_lines}
use Rattle.args.proofs.arguments.with_commands.Given as goal

-- the commands that are left make the program that all would
abbrev pub invariant-loop-row : goal.invariant-loop-row
invariant-loop-row l =
    fold with_subcommand (app_of l.program) (map shape_of_line (map table_line (drop l.row-index l.rows)))
    ≡ with_lines (app_of l.fn.program) (map table_line l.fn.rows)
