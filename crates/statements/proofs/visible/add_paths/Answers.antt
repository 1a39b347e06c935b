use Rattle.std.proofs.Common.{[], ◌∷◌, refl, subst}
use Rattle.sqlite.specs.Held.{state}
use Rattle.sqlite.specs.Effect.{Reads}
use Rattle.sqlite.specs.Listing.{understood}
use Rattle.sqlite.specs.Values.{bound_value}
use Rattle.sqlite_tied.specs.Compute.{everything}
use Rattle.tables.proofs.FailureLemmas.{was_clean}
use Rattle.statements.proofs.ChangeLemmas.{on_weaker}
use Rattle.statements.proofs.LookupLemmas.{asks}
use Rattle.statements.proofs.VisibleLemmas.{paths_query, paths_added}
use Rattle.statements.proofs.visible.add_paths.Goals as goal

pub add_texts-requires-clause-plain : goal.add_texts-requires-clause-plain
unfolding understood everything
add_texts-requires-clause-plain g c = (refl, refl)

pub add_texts-requires-clause-tables : goal.add_texts-requires-clause-tables
unfolding understood everything
add_texts-requires-clause-tables g c = refl

pub returns-clause-adds : goal.returns-clause-adds
unfolding understood everything
returns-clause-adds g c clean w stands =
    let old = state g.S.Store c.args.conn.now in
    on_weaker c.add_texts.result (λ added.
    let read = subst (λ v. Reads (asks paths_query) old.now (bound_value v ∷ []) added.1.rows) c.params-to_sql.ensures
    added.1.read in
    let holds = stands (was_clean old (state g.S.Store c.add_texts.new.conn) c.add_texts.ensures.spares.clean clean)
    added.0 in
    paths_added c.args.shelf.now old.now w holds.trees.means added.1.rows c.args.texts.now c.add_texts.new.texts read
    added.1.adds) (c.add_texts.ensures.adds clean w stands)
