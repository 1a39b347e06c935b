use Rattle.std.proofs.Common.{[], ◌∷◌, Some, None, subst, refl}
use Rattle.sqlite.specs.declared.types.Value.TheVariants.{Text}
use Rattle.sqlite.specs.Held.{state}
use Rattle.sqlite.specs.Listing.{understood}
use Rattle.sqlite_tied.specs.Compute.{everything}
use Rattle.tables.proofs.FailureLemmas.{was_clean}
use Rattle.statements.proofs.LookupLemmas.{Picks}
use Rattle.statements.proofs.KeyLemmas.{key_query, key_found, key_some, key_none}
use Rattle.statements.proofs.registry.find_key.Goals as goal

pub find_row-requires-clause-plain : goal.find_row-requires-clause-plain
unfolding understood everything
find_row-requires-clause-plain g c = (refl, refl)

pub find_row-requires-clause-tables : goal.find_row-requires-clause-tables
unfolding understood everything
find_row-requires-clause-tables g c = refl

pub returns-in_ok-read_holder-in-Some-clause-answer : goal.returns-in_ok-read_holder-in-Some-clause-answer
unfolding understood everything
returns-in_ok-read_holder-in-Some-clause-answer g c clean w stands =
    let old = state g.S.Store c.args.conn.now in
    let token = c.args.token.now in
    let h = rw c.params-to_sql.ensures at (c.in_ok-row.ensures.row clean w stands) in
    let picked = key_found token old.now (Some c.in-Some.row)
    (subst (Picks key_query (Text token ∷ []) old.now) c.in-Some.is h.2) in
    let holds = stands (was_clean old (state g.S.Store c.find_row.new.conn) c.find_row.ensures.spares.clean clean)
    h.0 in
    let read = c.in_ok-read_holder-in-Some.ensures in (
      h.0,
      h.1,
      key_some token old.now w holds.trees.means c.in-Some.row c.in_ok-read_holder-in-Some.field-0 read.1.0
          picked read.0 read.1.1 read.1.2,
    )

pub returns-in-None-clause-answer : goal.returns-in-None-clause-answer
unfolding understood everything
returns-in-None-clause-answer g c clean w stands =
    let old = state g.S.Store c.args.conn.now in
    let token = c.args.token.now in
    let h = rw c.params-to_sql.ensures at (c.in_ok-row.ensures.row clean w stands) in
    let picked = key_found token old.now None (subst (Picks key_query (Text token ∷ []) old.now) c.in-None.is h.2) in
    let holds = stands (was_clean old (state g.S.Store c.find_row.new.conn) c.find_row.ensures.spares.clean clean)
    h.0 in
    (h.0, h.1, key_none token old.now w holds.trees.means picked)
