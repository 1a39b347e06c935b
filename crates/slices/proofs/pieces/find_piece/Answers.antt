use Rattle.std.proofs.Common.{to_z-of_z, w64, SFits, rules, refl}
use Rattle.sqlite.specs.Held.{state}
use Rattle.sqlite.specs.Listing.{understood}
use Rattle.sqlite_tied.specs.Compute.{everything}
use Rattle.statements.proofs.ChangeLemmas.{weaker}
use Rattle.slices.proofs.RowLemmas.{piece_row_found}
use Rattle.slices.proofs.pieces.find_piece.Goals as goal

pub find_row-requires-clause-plain : goal.find_row-requires-clause-plain
unfolding understood everything
find_row-requires-clause-plain g c = (refl, refl)

pub find_row-requires-clause-tables : goal.find_row-requires-clause-tables
unfolding understood everything
find_row-requires-clause-tables g c = refl

pub returns-clause-answer : goal.returns-clause-answer
unfolding understood everything
returns-clause-answer g c clean w stands =
    let old = state g.S.Store c.args.conn.now in
    let range : SFits w64 c.args.id = search rules in
    let h = rw (
      c.params-to_sql.ensures,
      to_z-of_z {w = w64} {z = c.args.id} range,
      c.params-to_sql-2.ensures,
    ) at (c.find_row.ensures.row clean w stands) in
    weaker c.find_row.result (λ found it. (it.1, piece_row_found c.args.id c.args.number old.now found it.2)) h
