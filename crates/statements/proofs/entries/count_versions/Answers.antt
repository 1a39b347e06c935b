use Rattle.std.proofs.Common.{[], refl, subst}
use Rattle.sqlite.specs.Held.{state}
use Rattle.sqlite.specs.Listing.{understood}
use Rattle.sqlite_tied.specs.Compute.{everything}
use Rattle.tables.proofs.FailureLemmas.{was_clean}
use Rattle.statements.proofs.ChangeLemmas.{weaker}
use Rattle.statements.proofs.LookupLemmas.{Picks}
use Rattle.statements.proofs.CountLemmas.{count_all, all_read}
use Rattle.statements.proofs.entries.count_versions.Goals as goal

pub find_row-requires-clause-plain : goal.find_row-requires-clause-plain
unfolding understood everything
find_row-requires-clause-plain g c = (refl, refl)

pub find_row-requires-clause-tables : goal.find_row-requires-clause-tables
unfolding understood everything
find_row-requires-clause-tables g c = refl

pub returns-in-Some-clause-answer : goal.returns-in-Some-clause-answer
unfolding understood everything
returns-in-Some-clause-answer g c clean w stands =
    let old = state g.S.Store c.args.conn.now in
    let h = c.in_ok-row.ensures.row clean w stands.0 in
    let picked = subst (Picks count_all [] old.now) c.in-Some.is h.2 in
    let holds = stands.0 (was_clean old (state g.S.Store c.find_row.new.conn) c.find_row.ensures.spares.clean clean)
    h.0 in
    weaker c.read_count.result
    (λ n shown. all_read w old.now.trees holds.trees.means old.now refl c.in-Some.row n picked shown)
    c.read_count.ensures
