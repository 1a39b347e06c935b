use Rattle.store.proofs.CountedLemmas.{total_of_count}
use Rattle.store.proofs.store.SqlShelves.entries_kept.Goals as goal

pub returns-in-Some-clause-answer : goal.returns-in-Some-clause-answer
returns-in-Some-clause-answer g c clean w stands = stands.1.0.1 c.in-Some.total c.in-Some.is

pub returns-in-Some-exact-clause-answer : goal.returns-in-Some-exact-clause-answer
returns-in-Some-exact-clause-answer g c clean w stands =
    total_of_count w _ c.exact.result c.exact.ensures (c.in_ok-count_versions.ensures.answer clean w stands.0) _
    c.in-Some-exact.is
