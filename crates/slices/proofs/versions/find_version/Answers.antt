use Rattle.std.proofs.Common.{subst, refl, to_z-of_z, w64, SFits, rules}
use Rattle.sqlite.specs.Held.{state}
use Rattle.sqlite.specs.Listing.{understood}
use Rattle.sqlite_tied.specs.Compute.{everything}
use Rattle.tables.proofs.FailureLemmas.{was_clean}
use Rattle.statements.proofs.LookupLemmas.{Picks}
use Rattle.slices.proofs.RowLemmas.{version_query, version_params, version_found}
use Rattle.slices.proofs.versions.find_version.Goals as goal

pub find_row-requires-clause-plain : goal.find_row-requires-clause-plain
unfolding understood everything
find_row-requires-clause-plain g c = (refl, refl)

pub find_row-requires-clause-tables : goal.find_row-requires-clause-tables
unfolding understood everything
find_row-requires-clause-tables g c = refl

pub returns-in_ok-read_version-in-Some-clause-answer : goal.returns-in_ok-read_version-in-Some-clause-answer
unfolding understood everything
returns-in_ok-read_version-in-Some-clause-answer g c clean w stands =
    let old = state g.S.Store c.args.conn.now in
    let range : SFits w64 c.args.from = search rules in
    let h = rw (
      c.params-to_sql.ensures,
      to_z-of_z {w = w64} {z = c.args.from} range,
    ) at (c.in_ok-row.ensures.row clean w stands) in
    let read = c.in_ok-read_version-in-Some.ensures in
    let v = c.in_ok-read_version-in-Some.field-0 in
    let picked = subst (Picks version_query (version_params c.args.from) old.now) c.in-Some.is h.2 in
    let holds = stands (was_clean old (state g.S.Store c.find_row.new.conn) c.find_row.ensures.spares.clean clean)
    h.0 in (
      h.1,
      version_found c.args.from old.now w c.in-Some.row v holds.trees.means picked read.0 read.1 read.2 read.3
          read.4,
    )

pub returns-in-None-clause-answer : goal.returns-in-None-clause-answer
returns-in-None-clause-answer g c clean w stands = ((c.in_ok-row.ensures.row clean w stands).1, tt)
