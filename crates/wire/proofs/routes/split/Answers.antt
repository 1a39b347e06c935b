use Rattle.std.proofs.Common.{arith, ◌∙◌}
use Rattle.wire.proofs.RouteReadings.{found-params, next-given, no-route}
use Rattle.wire.proofs.routes.split.Goals as goal

pub returns-in_default : goal.returns-in_default
returns-in_default c =
    no-route c.args.target.now (λ i. omega (arith, c.type_inv.target i)) (rw c.requires at c.in_default.ensures.missing)

pub returns-in_default-next : goal.returns-in_default-next
returns-in_default-next c =
    let target = c.args.target.now in
    let found = found-params target c.in-Ok.found.params.path.now _ (λ i. omega (arith, c.type_inv.target i))
    c.utf8.target c.in-Ok.ensures.path (rw c.requires at c.in-Ok.ensures.found) in
    absurd (cc (c.iter-params.ensures.value, found.are, c.in_default-next.ensures.steps))

pub returns-in_default-next-2 : goal.returns-in_default-next-2
returns-in_default-next-2 c =
    let target = c.args.target.now in
    let found = found-params target c.in-Ok.found.params.path.now _ (λ i. omega (arith, c.type_inv.target i))
    c.utf8.target c.in-Ok.ensures.path (rw c.requires at c.in-Ok.ensures.found) in
    absurd (cc (c.iter-params.ensures.value, found.are, c.in-Some.ensures.steps.1, c.in_default-next-2.ensures.steps))

pub returns : goal.returns
returns c =
    let target = c.args.target.now in
    let found = found-params target c.in-Ok.found.params.path.now _ (λ i. omega (arith, c.type_inv.target i))
    c.utf8.target c.in-Ok.ensures.path (rw c.requires at c.in-Ok.ensures.found) in
    let first = c.in-Some.ensures.steps in
    let key = next-given _ _ _ first.0 _ _ _ first.1 (c.iter-params.ensures.value ∙ found.are) found.texts.0 first.3 in
    let second = c.in-Some-next.ensures.steps in
    let rest = next-given _ _ _ second.0 _ _ _ second.1 key.1 found.texts.1 second.3 in
    cc (found.routed, key.0, rest.0)
