use Rattle.std.proofs.Common.{[], ◌∷◌, subst, refl}
use Rattle.sqlite.specs.declared.types.Value.TheVariants.{Text}
use Rattle.sqlite.specs.Held.{state}
use Rattle.sqlite.specs.Listing.{understood}
use Rattle.sqlite_tied.specs.Compute.{everything}
use Rattle.tables.proofs.FailureLemmas.{was_clean}
use Rattle.statements.proofs.LookupLemmas.{Picks}
use Rattle.statements.proofs.ShelfLemmas.{shelf_query, shelf_some, shelf_none}
use Rattle.statements.proofs.registry.find_shelf.Goals as goal

pub find_row-requires-clause-plain : goal.find_row-requires-clause-plain
unfolding understood everything
find_row-requires-clause-plain g c = (refl, refl)

pub find_row-requires-clause-tables : goal.find_row-requires-clause-tables
unfolding understood everything
find_row-requires-clause-tables g c = refl

pub returns-in_ok-read_parent-in-Some-clause-answer : goal.returns-in_ok-read_parent-in-Some-clause-answer
unfolding understood everything
returns-in_ok-read_parent-in-Some-clause-answer g c clean w stands =
    let old = state g.S.Store c.args.conn.now in
    let name = c.args.name.now in
    let h = rw c.params-to_sql.ensures at (c.in_ok-row.ensures.row clean w stands) in
    let picked = subst (Picks shelf_query (Text name ∷ []) old.now) c.in-Some.is h.2 in
    let holds = stands (was_clean old (state g.S.Store c.find_row.new.conn) c.find_row.ensures.spares.clean clean)
    h.0 in (
      h.0,
      h.1,
      shelf_some name old.now w holds.trees.means c.in-Some.row c.in_ok-read_parent-in-Some.field-0 picked
          c.in_ok-read_parent-in-Some.ensures,
    )

pub returns-in-None-clause-answer : goal.returns-in-None-clause-answer
unfolding understood everything
returns-in-None-clause-answer g c clean w stands =
    let old = state g.S.Store c.args.conn.now in
    let name = c.args.name.now in
    let h = rw c.params-to_sql.ensures at (c.in_ok-row.ensures.row clean w stands) in
    let picked = subst (Picks shelf_query (Text name ∷ []) old.now) c.in-None.is h.2 in
    let holds = stands (was_clean old (state g.S.Store c.find_row.new.conn) c.find_row.ensures.spares.clean clean)
    h.0 in
    (h.0, h.1, shelf_none name old.now w holds.trees.means picked)
