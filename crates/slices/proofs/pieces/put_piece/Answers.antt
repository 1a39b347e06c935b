use Rattle.std.proofs.Common.{◌≡◌, rules}
use Rattle.sqlite.specs.declared.types.Value.TheVariants.{Int}
use Rattle.sqlite.specs.Order.{column}
use Rattle.sqlite.specs.Held.{state}
use Rattle.statements.proofs.ChangeLemmas.{on_weaker}
use Rattle.slices.proofs.RowLemmas.{piece_named}
use Rattle.slices.proofs.pieces.put_piece.Goals as goal

pub returns-clause-puts : goal.returns-clause-puts
returns-clause-puts g c clean filling =
    let old = state g.F.Store c.args.tx.now.conn.now in
    let new = state g.F.Store c.put.new.tx.conn.now in
    let shown : column c.args.row.now 0 ≡ Int c.in_ok-of.of = c.in_ok-of.ensures.ok.1 in
    let same : c.in_ok-of.of ≡ c.args.id = search rules in
    let first : column c.args.row.now 0 ≡ Int c.args.id = rw same at shown in
    on_weaker c.put.result (λ it. (piece_named c.args.row.now old.now.trees new.now.trees c.args.id first it.0, it.1))
    (c.put.ensures.puts clean tt filling)
