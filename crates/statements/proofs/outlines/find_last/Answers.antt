use Rattle.std.proofs.Common.{subst, refl, rules, to_z-of_z, w64, SFits}
use Rattle.sqlite.specs.Held.{state}
use Rattle.sqlite.specs.Listing.{understood}
use Rattle.sqlite_tied.specs.Compute.{everything}
use Rattle.statements.proofs.LookupLemmas.{Picks}
use Rattle.statements.proofs.OutlineLemmas.{last_query, last_shown, none_shown}
use Rattle.statements.proofs.ZipLemmas.{zip_params}
use Rattle.statements.proofs.outlines.find_last.Goals as goal

pub find_row-requires-clause-plain : goal.find_row-requires-clause-plain
unfolding understood everything
find_row-requires-clause-plain g c = (refl, refl)

pub find_row-requires-clause-tables : goal.find_row-requires-clause-tables
unfolding understood everything
find_row-requires-clause-tables g c = refl

pub returns-in_ok-read_piece-in-Some-clause-answer : goal.returns-in_ok-read_piece-in-Some-clause-answer
unfolding understood everything
returns-in_ok-read_piece-in-Some-clause-answer g c clean w stands =
    let old = state g.S.Store c.args.conn.now in
    let range : SFits w64 c.args.id = search rules in
    let h = rw (
      c.params-to_sql.ensures,
      to_z-of_z {w = w64} {z = c.args.id} range,
    ) at (c.in_ok-row.ensures.row clean w stands) in
    let picked = subst (Picks last_query (zip_params c.args.id) old.now) c.in-Some.is h.2 in
    let read = c.in_ok-read_piece-in-Some.ensures in
    last_shown c.args.id old.now c.in-Some.row c.in_ok-read_piece-in-Some.field-0 picked read.number read.size

pub returns-in-None-clause-answer : goal.returns-in-None-clause-answer
unfolding understood everything
returns-in-None-clause-answer g c clean w stands =
    let old = state g.S.Store c.args.conn.now in
    let range : SFits w64 c.args.id = search rules in
    let h = rw (
      c.params-to_sql.ensures,
      to_z-of_z {w = w64} {z = c.args.id} range,
    ) at (c.in_ok-row.ensures.row clean w stands) in
    none_shown c.args.id old.now (subst (Picks last_query (zip_params c.args.id) old.now) c.in-None.is h.2)
