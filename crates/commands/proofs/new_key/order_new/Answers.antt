use Rattle.commands.proofs.NewKeys.{drawn_cause}
use Rattle.commands.proofs.new_key.order_new.Goals as goal

pub returns-clause-cause : goal.returns-clause-cause
returns-clause-cause g c = drawn_cause _ _ _ _ (g.O.Tell.writes c.args.output.now)
    (g.O.Tell.writes c.order_key.new.output) _ _ c.in_ok-key.ensures (λ why. why) c.order_key.ensures.cause
