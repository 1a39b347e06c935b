use Rattle.std.proofs.Common.{Err, ap, refl}
use Rattle.control.proofs.PingLemmas.{pings_counted, tells_counted}
use Rattle.control.proofs.pinging.ping.Goals as goal

pub returns-in-Ok-clause-pings : goal.returns-in-Ok-clause-pings
returns-in-Ok-clause-pings g c =
    pings_counted _ g.K.CopyOrders.counted c.args.tally.now c.args.shelves.now c.versions.new.shelves _ _
    c.in-Ok.ensures.reads (refl, c.failures.ensures, c.in-Ok.ensures.counted) c.tell.ensures

pub returns-in-Ok-clause-figures : goal.returns-in-Ok-clause-figures
returns-in-Ok-clause-figures g c =
    let s = g.S.Shelves in
    let k = g.K.CopyOrders in
    tells_counted (k.figured c.args.copies.now c.versions.new.shelves) c.args.tally.now
    (s.shown c.args.shelves.now).failures (s.shown c.versions.new.shelves).failures (k.counted c.args.shelves.now c.versions.new.shelves) _ _
    refl c.failures.ensures c.in-Ok.ensures.counted c.figures.ensures c.tell.ensures

pub returns-in-Err-clause-pings : goal.returns-in-Err-clause-pings
returns-in-Err-clause-pings g c = record {
  heard = Err c.in-Err.fault;
  reads = c.in-Err.ensures.reads;
  came = λ is.
      c.in-Err.ensures.cause.device (ap Err is);
  tells = refl;
}
