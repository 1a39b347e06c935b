use Rattle.std.proofs.Common.{rules}
use Rattle.cli.proofs.Needed.{no_port}
use Rattle.cli.proofs.asked.entrance_of.Goals as goal

pub returns-in_err-port_of : goal.returns-in_err-port_of
returns-in_err-port_of c =
    no_port _ c.port_of.result c.from_residual.result (search rules) (search rules) c.port_of.ensures
