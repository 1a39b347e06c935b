use Rattle.std.proofs.Common.{rules, ◌≡◌, None}
use Rattle.cli.proofs.Needed.{no_serve, not_found}
use Rattle.cli.proofs.asked.serve_of.Goals as goal

pub returns-in_err-connections_of : goal.returns-in_err-connections_of
returns-in_err-connections_of c =
    let none : c.from_residual-in_err-connections_of.result ≡ None = search rules in
    rw none (no_serve _ (not_found c.connections_of.result _ (search rules) c.connections_of.ensures))
