use Rattle.std.proofs.Common.{ap}
use Rattle.histories.specs.Calls.{Writes}
use Rattle.orders.specs.Order.{Ping}
use Rattle.commands.proofs.Connections.{exchanges, lost_ping, one_ping}
use Rattle.commands.proofs.copy.how_far.Goals as goal

pub returns-in-Ok : goal.returns-in-Ok
returns-in-Ok g c =
    let calls = c.in-Ok.ensures.uncalled in
    let all = exchanges _ _ _ _ _ _ _ _ c.in-Ok.ensures.fresh (calls.0, ap (λ (w : Writes). w.failed) calls.1) Ping _
    c.send-told.ensures in
    one_ping _ _ _ _ _ _ c.in-Ok.ensures.connected c.end.ensures (all.0, all.1, (_, all.2))

pub returns-in-Err : goal.returns-in-Err
returns-in-Err g c = lost_ping _ _ _ _ c.in-Err.ensures.unconnected
