use Rattle.std.proofs.Common.{rules, ◌≡◌, None}
use Rattle.clap.specs.Words.{found_of, rows_of}
use Rattle.cli.proofs.Needed.{no_sent, no_other_command, not_found}
use Rattle.cli.proofs.asked.other_command.Goals as goal

pub returns-in_err-action_of-in-Some : goal.returns-in_err-action_of-in-Some
returns-in_err-action_of-in-Some c =
    let none : c.from_residual.result ≡ None = search rules in
    let rows = rows_of (found_of c.args.options.now) in
    rw none (no_other_command rows c.args.word.now c.in-Some.db.now (search rules)
    (not_found c.action_of.result _ (search rules) c.action_of.ensures))

pub returns-in_default : goal.returns-in_default
returns-in_default c =
    no_sent (rows_of (found_of c.args.options.now)) c.args.word.now (search rules) c.in_default.not-text
    c.in_default.not-text-2
