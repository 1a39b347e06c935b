use Rattle.std.proofs.Common.{◌≡◌, ◌+◌, rules}
use Rattle.cache.proofs.TotalLemmas.{one_more}
use Rattle.cache.proofs.total.raised.Goals as goal

pub returns-in-Some-checked_add : goal.returns-in-Some-checked_add
returns-in-Some-checked_add c = λ w q e free right.
    let more : c.in-Some-checked_add.more ≡ c.in-Some.number + 1 = search rules in
    one_more w q e c.args.total c.in-Some.number c.in-Some-checked_add.more free right c.in-Some.is more
