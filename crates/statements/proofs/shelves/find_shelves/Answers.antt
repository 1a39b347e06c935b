use Rattle.std.proofs.Common.{[], refl}
use Rattle.sqlite.specs.Held.{state}
use Rattle.sqlite.specs.Effect.{Reads}
use Rattle.sqlite.specs.Listing.{understood}
use Rattle.sqlite_tied.specs.Compute.{everything}
use Rattle.tables.proofs.FailureLemmas.{was_clean}
use Rattle.statements.proofs.ChangeLemmas.{weaker}
use Rattle.statements.proofs.LookupLemmas.{asks}
use Rattle.statements.proofs.ShelfListLemmas.{all_query, all_listed}
use Rattle.statements.proofs.shelves.find_shelves.Goals as goal

pub find_rows-requires-clause-plain : goal.find_rows-requires-clause-plain
unfolding understood everything
find_rows-requires-clause-plain g c = (refl, refl)

pub find_rows-requires-clause-tables : goal.find_rows-requires-clause-tables
unfolding understood everything
find_rows-requires-clause-tables g c = refl

pub returns-clause-answer : goal.returns-clause-answer
unfolding understood everything
returns-clause-answer g c clean w stands =
    let old = state g.S.Store c.args.conn.now in
    let h = c.in_ok-rows.ensures.rows clean w stands in
    let read : Reads (asks all_query) old.now [] c.in_ok-rows.rows.items = h.1 in
    let holds = stands (was_clean old (state g.S.Store c.find_rows.new.conn) c.find_rows.ensures.spares.clean clean)
    h.0 in
    let lists_all = rw c.as_slice.ensures.value at c.list_rows.ensures in
    weaker c.list_rows.result
    (λ list lists. (
      c.in_ok-rows.ensures.open clean w stands,
      all_listed old.now w holds.trees.means c.in_ok-rows.rows.items read list lists,
    )) lists_all
