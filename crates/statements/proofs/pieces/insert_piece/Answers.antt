use Rattle.std.proofs.Common.{Ok, to_z-of_z, w64, SFits, rules, refl}
use Rattle.sqlite.specs.Held.{state}
use Rattle.sqlite.specs.Listing.{understood}
use Rattle.sqlite_tied.specs.Compute.{everything}
use Rattle.sqlite.specs.State.{ExecutesInside}
use Rattle.statements.proofs.AddEntryLemmas.{piece_params, piece_put}
use Rattle.statements.proofs.pieces.insert_piece.Goals as goal

pub returns-clause-puts : goal.returns-clause-puts
unfolding understood everything
returns-clause-puts g c clean filling =
    let old = state g.S.Store c.args.tx.now.conn.now in
    let new = state g.S.Store c.execute.new.self.conn.now in
    let one : SFits w64 c.args.id = search rules in
    let two : SFits w64 c.args.number = search rules in
    let ran : ExecutesInside 0 _ (piece_params c.args.id c.args.number c.args.bytes.now) old new
    (Ok c.in_ok-execute.field-0) =
    rw (
      c.params-to_sql.ensures,
      c.params-to_sql-2.ensures,
      c.params-to_sql-3.ensures,
      to_z-of_z {w = w64} {z = c.args.id} one,
      to_z-of_z {w = w64} {z = c.args.number} two,
    )
    at (c.in_ok-execute.ensures.runs clean filling.inside) in
    piece_put c.args.id c.args.number c.args.bytes.now _ refl (refl, refl) old new c.in_ok-execute.field-0 filling ran
