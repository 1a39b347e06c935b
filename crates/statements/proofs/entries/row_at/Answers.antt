use Rattle.std.proofs.Common.{subst, refl}
use Rattle.sqlite.specs.Held.{state}
use Rattle.sqlite.specs.Listing.{understood}
use Rattle.sqlite_tied.specs.Compute.{everything}
use Rattle.world.specs.declared.entry.Place.{Place}
use Rattle.tables.proofs.FailureLemmas.{was_clean}
use Rattle.statements.proofs.LookupLemmas.{Picks}
use Rattle.statements.proofs.HeadingLemmas.{row_query, row_read, row_lacks, place_params}
use Rattle.statements.proofs.entries.row_at.Goals as goal

pub find_row-requires-clause-plain : goal.find_row-requires-clause-plain
unfolding understood everything
find_row-requires-clause-plain g c = (refl, refl)

pub find_row-requires-clause-tables : goal.find_row-requires-clause-tables
unfolding understood everything
find_row-requires-clause-tables g c = refl

pub returns-in_ok-read_version-in-Some-clause-answer : goal.returns-in_ok-read_version-in-Some-clause-answer
unfolding understood everything
returns-in_ok-read_version-in-Some-clause-answer g c clean w stands =
    let old = state g.S.Store c.args.conn.now in
    let p : Place = record { shelf = c.args.shelf.now; path = c.args.path.now; version = c.args.version.now } in
    let h = rw (
      c.params-to_sql.ensures,
      c.params-to_sql-2.ensures,
      c.params-to_sql-3.ensures,
    ) at (c.in_ok-row.ensures.row clean w stands) in
    let picked = subst (Picks row_query (place_params p) old.now) c.in-Some.is h.2 in
    let holds = stands (was_clean old (state g.S.Store c.find_row.new.conn) c.find_row.ensures.spares.clean clean)
    h.0 in
    let read = c.in_ok-read_version-in-Some.ensures in (
      h.0,
      h.1,
      row_read p old.now w holds.trees.means c.in-Some.row c.in_ok-read_version-in-Some.field-0 picked read.0
          read.1 read.2 read.3,
    )

pub returns-in-None-clause-answer : goal.returns-in-None-clause-answer
unfolding understood everything
returns-in-None-clause-answer g c clean w stands =
    let old = state g.S.Store c.args.conn.now in
    let p : Place = record { shelf = c.args.shelf.now; path = c.args.path.now; version = c.args.version.now } in
    let h = rw (
      c.params-to_sql.ensures,
      c.params-to_sql-2.ensures,
      c.params-to_sql-3.ensures,
    ) at (c.in_ok-row.ensures.row clean w stands) in
    let picked = subst (Picks row_query (place_params p) old.now) c.in-None.is h.2 in
    let holds = stands (was_clean old (state g.S.Store c.find_row.new.conn) c.find_row.ensures.spares.clean clean)
    h.0 in
    (h.0, h.1, row_lacks p old.now w holds.trees.means picked)
