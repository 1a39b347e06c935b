use Rattle.commands.proofs.NewKeys.{orders_new, orders_new_cause}
use Rattle.commands.proofs.new_key.order_new_at.Goals as goal

pub returns-clause-orders : goal.returns-clause-orders
returns-clause-orders g c = orders_new _ _ _ _ _ _ _ _ _ _ _ c.new.ensures c.order_new.ensures.orders

pub returns-clause-cause : goal.returns-clause-cause
returns-clause-cause g c =
    orders_new_cause _ _ _ _ _ _ _ _ (g.O.Tell.writes c.args.output.now) (g.O.Tell.writes c.order_new.new.output)
    c.order_new.result c.new.ensures c.order_new.ensures.cause
