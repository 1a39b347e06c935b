use Rattle.std.proofs.Common.{to_z-of_z, w64, SFits, rules}
use Rattle.sqlite.specs.Held.{state}
use Rattle.statements.proofs.ChangeLemmas.{on_weaker}
use Rattle.statements.proofs.CopyRowLemmas.{piece_as_shown}
use Rattle.statements.proofs.extract_rows.PiecesRowSink.put.Goals as goal

pub returns-clause-puts : goal.returns-clause-puts
returns-clause-puts g c clean fits filling =
    let old = state g.F.Store c.args.tx.now.conn.now in
    let new = state g.F.Store c.insert_piece.new.tx.conn.now in
    let one : SFits w64 c.in_ok-version.version = search rules in
    let two : SFits w64 c.in_ok-number.number = search rules in
    let put = rw (
      to_z-of_z {w = w64} {z = c.in_ok-version.version} one,
      to_z-of_z {w = w64} {z = c.in_ok-number.number} two,
    ) at (c.insert_piece.ensures.puts clean filling) in
    on_weaker c.insert_piece.result
    (λ it. (
      piece_as_shown c.args.row.now old.now.trees new.now.trees c.in_ok-version.version c.in_ok-number.number
          c.in_ok-lent_bytes.field-0.now c.in_ok-version.ensures.ok.1 c.in_ok-number.ensures.ok.1
          c.in_ok-lent_bytes.ensures it.0,
      it.1,
    ))
    put
