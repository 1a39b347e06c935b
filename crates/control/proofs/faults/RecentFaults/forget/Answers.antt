use Rattle.std.proofs.Common.{rules}
use Rattle.std.proofs.lemmas.Fn.{filter_same}
use Rattle.control.specs.Faults.{is_recent}
use Rattle.control.proofs.faults.RecentFaults.forget.Goals as goal

pub returns : goal.returns
returns c = rw c.in-Some.is (filter_same _ (λ fault. is_recent c.in-Some.now fault.at) _ (λ fault b f' k. search rules) _ _
    c.retain.ensures.filtered)
