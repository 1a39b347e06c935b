use Rattle.std.proofs.Common.{◌≡◌, rules, subst}
use Rattle.machine.specs.Machine.{request_reply, after_request}
use Rattle.world.specs.Store.{Does}
use Rattle.machine.proofs.step.step.Goals as goal

pub returns : goal.returns
returns g c =
    let shown = g.S.Shelves.shown in
    let begun : c.new-lent.result.inner.now ≡ c.args.shelves.now = c.new-lent.ensures.value in
    let ends : c.step_over.new.shelves.inner.now ≡ c.shelves-1.given.0 = search rules in
    let asked = c.args.request.now in
    let result = c.step_over.result in
    record {
      does =
          subst (λ s. Does (shown c.args.shelves.now) (shown s) result (λ w. request_reply w asked)
          (λ w. after_request w asked)) ends
          (subst (λ s. Does (shown s) (shown c.step_over.new.shelves.inner.now) result (λ w. request_reply w asked)
          (λ w. after_request w asked)) begun
          c.step_over.ensures.does);
    }
