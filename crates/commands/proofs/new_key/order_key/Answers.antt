use Rattle.std.proofs.Common.{ap, inl, inr, refl, Err, Ok}
use Rattle.network.specs.declared.servers.Link.{Link}
use Rattle.commands.specs.Connection.{IsAll}
use Rattle.commands.specs.Order.{OrdersAt}
use Rattle.commands.proofs.NewKeys.{ends_io}
use Rattle.commands.proofs.new_key.order_key.Goals as goal

pub returns-in-Err-clause-cause : goal.returns-in-Err-clause-cause
returns-in-Err-clause-cause g c =
    let ordered = OrdersAt {L = Link g.row.R.Denot g.row.W.Denot} (λ link passed. IsAll (g.R.Hear.account link.reader)
    (g.R.Hear.reads link.reader) (g.W.Write.contents link.writer) (g.W.Tell.writes link.writer).failed passed)
    c.args.path.now in
    λ is. inr (ends_io ordered c.args.shelf c.args.key c.args.right (g.V.Servers.history c.args.servers.now)
    (g.V.Servers.history c.order_at.new.servers) c.in-Err.refusal c.in-Err.ensures is)

pub returns-in-Ok-clause-orders : goal.returns-in-Ok-clause-orders
returns-in-Ok-clause-orders g c = record {
  mid = g.V.Servers.history c.order_at.new.servers;
  added = Ok c.in_default.field-0;
  adds = c.in_default.ensures;
  shows = inl (refl, refl, rw c.as_bytes.ensures.value at c.in-Ok.ensures.prints);
}

pub returns-in-Err-print_both-clause-orders : goal.returns-in-Err-print_both-clause-orders
returns-in-Err-print_both-clause-orders g c = record {
  mid = g.V.Servers.history c.order_at.new.servers;
  added = Ok c.in_default.field-0;
  adds = c.in_default.ensures;
  shows = inr (
    (rw c.as_bytes.ensures.value at c.in-Err-print_both.ensures.prints).1,
    (c.order_at-in-Err-print_both.result, c.order_at-in-Err-print_both.ensures, ap Err c.unprinted.ensures),
  );
}
