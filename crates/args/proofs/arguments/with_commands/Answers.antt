use Rattle.std.proofs.Common.{◌∙◌, ap, arith}
use Rattle.clap.specs.Words.{app_of, with_subcommand}
use Rattle.args.proofs.Left.{command_added, row_is_local}
use Rattle.args.proofs.arguments.with_commands.Goals as goal

pub loop-row-preserved : goal.loop-row-preserved
loop-row-preserved c =
    command_added _ _ _ c.args.rows.now c.loop-row.row-index _ (omega arith)
    (c.in_ok-program.ensures.shape (row_is_local _ c.args.rows.now c.loop-row.row-index _ c.in_ok-command.ensures)
    ∙ ap (with_subcommand (app_of c.loop-row.program)) c.in_ok-command.ensures)
    c.loop-row.invariant
