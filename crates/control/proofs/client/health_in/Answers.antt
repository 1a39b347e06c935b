use Rattle.std.proofs.Common.{◌∙◌, subst, sym, true≢false}
use Rattle.orders.specs.Outcome.{IsNoOutcome}
use Rattle.control.specs.Health.{IsHealthLine}
use Rattle.control.proofs.ReplyLemmas.{no_health}
use Rattle.control.proofs.client.health_in.Goals as goal

pub returns-else-is_health : goal.returns-else-is_health
returns-else-is_health c =
    no_health c.args.got.items (subst IsNoOutcome c.deref.ensures.value c.in_default.ensures)
    (λ line. true≢false
    (sym (c.is_health.ensures.1 (subst IsHealthLine (sym c.deref-2.ensures.value) line)) ∙ c.if-is_health.false))
