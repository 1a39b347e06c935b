use Rattle.std.proofs.Common.{ap, refl}
use Rattle.histories.specs.Calls.{Reads, Writes}
use Rattle.commands.proofs.Connections.{exchanges, meets}
use Rattle.commands.proofs.remote.exchange_at.Goals as goal

pub returns-in-Ok : goal.returns-in-Ok
returns-in-Ok g c =
    let calls = c.in-Ok.ensures.uncalled in
    let over = c.exchange-told.ensures in
    let all = exchanges _ _ _ _ _ _ _ _ c.in-Ok.ensures.fresh (calls.0, ap (λ (w : Writes). w.failed) calls.1) _ _
    over.gets in
    meets _ _ _ _ _ _ _ _ _ _ _ c.wait_for.ensures all.0 all.1 all.2 (ap (λ (r : Reads). r.failed) all.1.called)
    c.in-Ok.ensures.connected
    (rw (ap (λ (r : Reads). r.failed) calls.0) at over.between) c.end.ensures

pub returns-in-Err : goal.returns-in-Err
returns-in-Err g c = (refl, c.in-Err.ensures.unconnected)
