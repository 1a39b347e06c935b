use Rattle.std.proofs.Common.{◌≡◌, true, false, take, drop, refl, sym, ap, subst, ◌∙◌, to_z, of_z, to_z-of_z, w64}
use Rattle.std.proofs.Common.{SFits, rules}
use Rattle.sqlite.specs.Held.{state}
use Rattle.statements.specs.Rows.{GoesOn}
use Rattle.statements.specs.Added.{AddsZip}
use Rattle.tables.specs.Pieces.{piece}
use Rattle.tables.proofs.FailureLemmas.{was_clean}
use Rattle.statements.proofs.ChangeLemmas.{not_ok}
use Rattle.statements.proofs.GoingLemmas.{goes_on_itself, goes_on_then}
use Rattle.statements.proofs.AddZipLemmas.{adds_nothing, adds_piece, zip_added, some_left, none_left, piece_cut}
use Rattle.statements.proofs.AddZipLemmas.{rest_cut, is_none, is_some}
use Rattle.statements.proofs.pieces.insert_zip.Goals as goal

pub loop-number-init : goal.loop-number-init
loop-number-init g c =
    let start = state g.S.Store c.args.tx.now.conn.now in
    (refl, goes_on_itself start, refl, λ clean filling. (adds_nothing _ _ start.now.trees, filling))

pub returns-then-is_empty-clause-adds : goal.returns-then-is_empty-clause-adds
returns-then-is_empty-clause-adds g c clean filling =
    let start = state g.S.Store c.args.tx.now.conn.now in
    let at = state g.S.Store c.loop-number.tx.conn.now in
    let zip = c.args.zip.now in
    let rest = c.loop-number.rest.now in
    let n = c.loop-number.number in
    let so_far = c.loop-number.invariant in
    let was = so_far.3 clean filling in
    let range : SFits w64 c.args.id = search rules in
    let all = none_left zip rest n so_far.2 (is_none rest (sym c.is_empty.ensures ∙ c.if-is_empty.true)) in (
      subst (λ m. AddsZip m zip start.now.trees at.now.trees) (to_z-of_z {w = w64} {z = c.args.id} range)
          (zip_added (to_z w64 (of_z w64 c.args.id)) zip n start.now.trees at.now.trees all was.0),
      was.1,
    )

pub returns-in_err-insert_piece-clause-goes_on : goal.returns-in_err-insert_piece-clause-goes_on
returns-in_err-insert_piece-clause-goes_on g c =
    let start = state g.S.Store c.args.tx.now.conn.now in
    let at = state g.S.Store c.loop-number.tx.conn.now in
    let end = state g.S.Store c.insert_piece.new.tx.conn.now in
    subst (GoesOn start end) (sym (not_ok c.from_residual.result c.from_residual.ensures.0))
    (goes_on_then start at end false c.loop-number.invariant.1 c.in_err-insert_piece.ensures.goes_on)

pub loop-number-preserved : goal.loop-number-preserved
loop-number-preserved g c =
    let start = state g.S.Store c.args.tx.now.conn.now in
    let at = state g.S.Store c.loop-number.tx.conn.now in
    let end = state g.S.Store c.insert_piece.new.tx.conn.now in
    let put = c.in_ok-insert_piece.ensures in
    let zip = c.args.zip.now in
    let rest = c.loop-number.rest.now in
    let n = c.loop-number.number in
    let so_far = c.loop-number.invariant in (
      put.same_reference ∙ so_far.0,
      goes_on_then start at end true so_far.1 put.goes_on,
      c.split_at.ensures.back ∙ (ap (λ k. drop k rest) c.min.ensures ∙ rest_cut zip rest n so_far.2),
      λ clean filling.
          let was = so_far.3 (was_clean at end put.goes_on.survives.clean clean) filling in
          let has = some_left zip rest n so_far.2 (is_some rest (sym c.is_empty.ensures ∙ c.if-is_empty.false)) in
          let range : SFits w64 c.from.result = search rules in
          let bytes : c.split_at.result.0.now ≡ piece zip n = c.split_at.ensures.front
          ∙ (ap (λ k. take k rest) c.min.ensures ∙ piece_cut zip rest n so_far.2) in
          let it = rw (
            to_z-of_z {w = w64} {z = c.from.result} range,
            c.from.ensures,
            bytes,
          ) at (put.puts clean was.1) in (
            adds_piece (to_z w64 (of_z w64 c.args.id)) zip n start.now.trees at.now.trees end.now.trees was.0 has it.0,
            it.1,
          ),
    )
