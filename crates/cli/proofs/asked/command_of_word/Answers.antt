use Rattle.std.proofs.Common.{rules}
use Rattle.clap.specs.Words.{found_of, rows_of}
use Rattle.cli.proofs.Needed.{found, no_command, not_found, other_command}
use Rattle.cli.proofs.asked.command_of_word.Goals as goal

pub returns-in-Some : goal.returns-in-Some
returns-in-Some c = c.registering_command.ensures c.args.word.now
    (found c.registry_command_of.result c.in-Some.command _ (search rules) c.registry_command_of.ensures)

pub returns-in-None : goal.returns-in-None
returns-in-None c =
    let none = c.in_default in
    other_command (rows_of (found_of c.args.options.now)) c.args.word.now _
    (no_command (rows_of (found_of c.args.options.now)) c.args.word.now none.not-init none.not-answer
    none.not-extract none.not-migrate none.not-copy none.not-ping none.not-text none.not-text-2 none.not-catalog
    none.not-stop
    (not_found c.registry_command_of.result _ (search rules) c.registry_command_of.ensures))
    c.other_command.ensures
