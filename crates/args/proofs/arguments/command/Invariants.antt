use Rattle.std.proofs.Common.{◌≡◌, drop, map}
use Rattle.std.specs.Prelude.{fold}
use Rattle.clap.specs.Words.{app_of, with_rule}
use Rattle.args.specs.Table.{bare_command, table_line, option_of, rule_of_option}
use Rattle.args.proofs.arguments.command.Given as goal

-- the options that are left make the command that all would
abbrev pub invariant-loop-option : goal.invariant-loop-option
invariant-loop-option l =
    fold with_rule (app_of l.command) (map rule_of_option (map option_of (drop l.option-index l.option-items)))
    ≡ fold with_rule (bare_command (table_line l.fn.row)) (map rule_of_option (map option_of l.fn.row.options.now))
