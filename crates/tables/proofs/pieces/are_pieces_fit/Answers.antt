use Rattle.std.proofs.Common.{refl}
use Rattle.sqlite.specs.Held.{state}
use Rattle.tables.proofs.ListingLemmas.{piece_rows}
use Rattle.tables.proofs.Texts.{piece_rows_text}
use Rattle.tables.proofs.FitTests.{walked}
use Rattle.tables.proofs.PieceTests.{PieceFits, PieceKeeps, pieces_true, pieces_false}
use Rattle.tables.proofs.WalkCauses.{walkable, walk_reason}
use Rattle.tables.proofs.pieces.are_pieces_fit.Goals as goal

pub rows_pass-requires : goal.rows_pass-requires
rows_pass-requires g c =
    record { plain = piece_rows.plain; tables = piece_rows.unlisted; walkable = walkable piece_rows }

pub returns-clause-tests : goal.returns-clause-tests
returns-clause-tests g c =
    let old = state g.S.Store c.args.conn.now in
    walked PieceFits PieceKeeps piece_rows_text old
    (state g.S.Store c.rows_pass.new.conn) c.rows_pass.result _ c.rows_pass.new.test _ c.rows_pass.ensures.looks
    c.rows_pass.ensures.same c.rows_pass.ensures.answer
    (pieces_true old.now _ c.rows_pass.new.test refl) (pieces_false old.now _ c.rows_pass.new.test refl)

pub returns-clause-cause : goal.returns-clause-cause
returns-clause-cause g c clean has =
    let old = state g.S.Store c.args.conn.now in
    walk_reason piece_rows old (state g.S.Store c.rows_pass.new.conn) c.rows_pass.result has
    (c.rows_pass.ensures.cause clean has)
