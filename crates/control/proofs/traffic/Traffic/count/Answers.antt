use Rattle.std.proofs.Common.{◌∙◌, ap, unwrap_or}
use Rattle.std.specs.FinMap as map
use Rattle.control.specs.Traffic as spec
use Rattle.control.proofs.traffic.Traffic.count.Goals as goal

pub returns-in-Some-clause-counted : goal.returns-in-Some-clause-counted
returns-in-Some-clause-counted c =
    let lent = rw c.in-Some.is at (c.get_mut.follows.holds c.with_one.result) in
    lent ∙ ap (λ n. map.insert c.args.self.now.shelves c.args.shelf.now n)
    (c.with_one.ensures ∙ ap (λ o. spec.with_one c.args.transfer (unwrap_or o spec.none)) c.in-Some.ensures.value)
