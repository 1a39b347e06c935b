use Rattle.std.proofs.Common.{rules}
use Rattle.cli.proofs.Needed.{no_connections}
use Rattle.cli.proofs.asked.connections_of.Goals as goal

pub returns-in_err-connections : goal.returns-in_err-connections
returns-in_err-connections c =
    no_connections _ c.given_connections.result c.from_residual.result (search rules) (search rules)
    c.given_connections.ensures
