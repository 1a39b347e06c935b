use Rattle.std.proofs.Common.{◌+◌, true, false, refl, sym, subst, ◌∙◌, to_z, of_z, to_z-of_z, w64, SFits, rules}
use Rattle.sqlite.specs.Effect.{Database}
use Rattle.sqlite.specs.Held.{state}
use Rattle.tables.proofs.FailureLemmas.{was_clean}
use Rattle.tables.specs.Pieces.{piece}
use Rattle.statements.specs.Reading.{IsZip}
use Rattle.statements.specs.Rows.{GoesOn}
use Rattle.statements.proofs.AddZipLemmas.{adds_piece, zip_added}
use Rattle.statements.proofs.CallLemmas.{spares_then}
use Rattle.statements.proofs.ChangeLemmas.{not_ok}
use Rattle.statements.proofs.ExtractLemmas.{spares_itself}
use Rattle.statements.proofs.GoingLemmas.{goes_on_itself, goes_on_or_ends, goes_on_then}
use Rattle.slices.specs.Slices.{ShowsPieceIn}
use Rattle.slices.proofs.RowLemmas.{none_after, short_is_last}
use Rattle.slices.proofs.pieces.copy_pieces.Goals as goal

pub loop-number-init : goal.loop-number-init
loop-number-init g c = (
  spares_itself (state g.S.Store c.args.source.now),
  λ clean w stands. (refl, λ is. is),
  refl,
  goes_on_itself (state g.F.Store c.args.tx.now.conn.now),
  λ clean good w stands zip is mid adds filling. (adds, filling),
)

pub returns-in_err-row-clause-reads : goal.returns-in_err-row-clause-reads
returns-in_err-row-clause-reads g c = spares_then _ _ _ c.loop-number.invariant.0 c.find_piece.ensures.spares

pub returns-in_err-row-clause-goes_on : goal.returns-in_err-row-clause-goes_on
returns-in_err-row-clause-goes_on g c =
    let begun = state g.F.Store c.args.tx.now.conn.now in
    let at = state g.F.Store c.loop-number.tx.conn.now in
    subst (GoesOn begun at) (sym (not_ok c.from_residual.result c.from_residual.ensures.0))
    (goes_on_or_ends begun at false c.loop-number.invariant.3)

pub returns-in_default-clause-reads : goal.returns-in_default-clause-reads
returns-in_default-clause-reads g c = spares_then _ _ _ c.loop-number.invariant.0 c.find_piece.ensures.spares

pub returns-in_default-clause-open : goal.returns-in_default-clause-open
returns-in_default-clause-open g c clean w stands is =
    (c.in_ok-row.ensures.answer clean w (c.loop-number.invariant.0.stays w stands)).0

pub returns-in_default-clause-copies : goal.returns-in_default-clause-copies
returns-in_default-clause-copies g c clean good later stands zip is mid adds filling =
    let range : SFits w64 c.args.id = search rules in
    let whole = to_z-of_z {w = w64} {z = c.args.id} range in
    let so_far = c.loop-number.invariant in
    let at = state g.F.Store c.loop-number.tx.conn.now in
    let n = c.loop-number.number in
    let early = was_clean (state g.S.Store c.loop-number.source) (state g.S.Store c.find_piece.new.conn)
    c.find_piece.ensures.spares.clean clean in
    let was = (rw whole at so_far.4) early good later stands zip is mid adds filling in
    let same = (so_far.1 early later stands).0 in
    let answer = rw whole at (c.in_ok-row.ensures.answer clean later (so_far.0.stays later stands)).1 in
    let shows = answer zip (subst (λ (d : Database). IsZip d.trees c.args.id zip) (sym same) is) in
    let none = subst (ShowsPieceIn zip n) c.in_default.is shows in
    (was.1, zip_added c.args.id zip n mid at.now.trees (none_after zip n none) was.0)

pub loop-number-preserved : goal.loop-number-preserved
loop-number-preserved g c =
    let so_far = c.loop-number.invariant in
    let put = c.in-Ok.ensures in
    let spares = c.find_piece.ensures.spares in
    let old = state g.S.Store c.args.source.now in
    let source = state g.S.Store c.loop-number.source in
    let read = state g.S.Store c.find_piece.new.conn in
    let begun = state g.F.Store c.args.tx.now.conn.now in
    let at = state g.F.Store c.loop-number.tx.conn.now in
    let end = state g.F.Store c.put_piece.new.tx.conn.now in
    let n = c.loop-number.number in
    let id = to_z w64 (of_z w64 c.args.id) in (
      spares_then old source read so_far.0 spares,
      λ clean w stands.
          let was = so_far.1 (was_clean source read spares.clean clean) w stands in
          let there = so_far.0.stays w stands in
          (c.in_ok-row.ensures.same clean w there ∙ was.0, λ is. (c.in_ok-row.ensures.answer clean w there).0),
      put.same_reference ∙ so_far.2,
      goes_on_then begun at end true so_far.3 put.goes_on,
      λ clean good w stands zip is mid adds filling.
          let early = was_clean source read spares.clean clean in
          let was = so_far.4 early (was_clean at end put.goes_on.survives.clean good) w stands zip is mid adds
          filling in
          let same = (so_far.1 early w stands).0 in
          let answer = (c.in_ok-row.ensures.answer clean w (so_far.0.stays w stands)).1 zip
          (subst (λ (d : Database). IsZip d.trees id zip) (sym same) is) in
          let shows = subst (ShowsPieceIn zip n) c.in-Some.is answer in
          let it = rw (shows.1, shows.2) at (put.puts good was.1) in
          (adds_piece id zip n mid at.now.trees end.now.trees was.0 shows.0 it.0, it.1),
    )

pub returns-in-Err-clause-reads : goal.returns-in-Err-clause-reads
returns-in-Err-clause-reads g c = spares_then _ _ _ c.loop-number.invariant.0 c.find_piece.ensures.spares

pub returns-in-Err-clause-same_reference : goal.returns-in-Err-clause-same_reference
returns-in-Err-clause-same_reference g c = c.in-Err.ensures.same_reference ∙ c.loop-number.invariant.2

pub returns-in-Err-clause-goes_on : goal.returns-in-Err-clause-goes_on
returns-in-Err-clause-goes_on g c =
    goes_on_then (state g.F.Store c.args.tx.now.conn.now) (state g.F.Store c.loop-number.tx.conn.now)
    (state g.F.Store c.put_piece.new.tx.conn.now) false
    c.loop-number.invariant.3 c.in-Err.ensures.goes_on

pub returns-clause-goes_on : goal.returns-clause-goes_on
returns-clause-goes_on g c =
    goes_on_or_ends (state g.F.Store c.args.tx.now.conn.now) (state g.F.Store c.loop-number.tx.conn.now) false
    c.loop-number.invariant.3

pub returns-then-is_short-clause-reads : goal.returns-then-is_short-clause-reads
returns-then-is_short-clause-reads g c = spares_then _ _ _ c.loop-number.invariant.0 c.find_piece.ensures.spares

pub returns-then-is_short-clause-open : goal.returns-then-is_short-clause-open
returns-then-is_short-clause-open g c clean w stands is =
    (c.in_ok-row.ensures.answer clean w (c.loop-number.invariant.0.stays w stands)).0

pub returns-then-is_short-clause-same_reference : goal.returns-then-is_short-clause-same_reference
returns-then-is_short-clause-same_reference g c = c.in-Ok.ensures.same_reference ∙ c.loop-number.invariant.2

pub returns-then-is_short-clause-goes_on : goal.returns-then-is_short-clause-goes_on
returns-then-is_short-clause-goes_on g c =
    goes_on_then (state g.F.Store c.args.tx.now.conn.now) (state g.F.Store c.loop-number.tx.conn.now)
    (state g.F.Store c.put_piece.new.tx.conn.now) true c.loop-number.invariant.3 c.in-Ok.ensures.goes_on

pub returns-then-is_short-clause-copies : goal.returns-then-is_short-clause-copies
returns-then-is_short-clause-copies g c clean good later stands zip is mid adds filling =
    let range : SFits w64 c.args.id = search rules in
    let whole = to_z-of_z {w = w64} {z = c.args.id} range in
    let so_far = c.loop-number.invariant in
    let put = c.in-Ok.ensures in
    let at = state g.F.Store c.loop-number.tx.conn.now in
    let end = state g.F.Store c.put_piece.new.tx.conn.now in
    let n = c.loop-number.number in
    let early = was_clean (state g.S.Store c.loop-number.source) (state g.S.Store c.find_piece.new.conn)
    c.find_piece.ensures.spares.clean clean in
    let was = (rw whole at so_far.4) early (was_clean at end put.goes_on.survives.clean good) later stands zip is mid
    adds filling in
    let same = (so_far.1 early later stands).0 in
    let answer = rw whole at (c.in_ok-row.ensures.answer clean later (so_far.0.stays later stands)).1 in
    let shows = subst (ShowsPieceIn zip n) c.in-Some.is
    (answer zip (subst (λ (d : Database). IsZip d.trees c.args.id zip) (sym same) is)) in
    let it = rw (whole, shows.1, shows.2) at (put.puts good was.1) in
    let added = adds_piece c.args.id zip n mid at.now.trees end.now.trees was.0 shows.0 it.0 in
    let short = c.is_short.ensures (piece zip n) shows.2 c.if-is_short.true in
    (it.1, zip_added c.args.id zip (n + 1) mid end.now.trees (short_is_last zip n short) added)

pub returns-then-is_spent-clause-reads : goal.returns-then-is_spent-clause-reads
returns-then-is_spent-clause-reads g c = spares_then _ _ _ c.loop-number.invariant.0 c.find_piece.ensures.spares

pub returns-then-is_spent-clause-open : goal.returns-then-is_spent-clause-open
returns-then-is_spent-clause-open g c clean w stands is =
    (c.in_ok-row.ensures.answer clean w (c.loop-number.invariant.0.stays w stands)).0

pub returns-then-is_spent-clause-same_reference : goal.returns-then-is_spent-clause-same_reference
returns-then-is_spent-clause-same_reference g c = c.in-Ok.ensures.same_reference ∙ c.loop-number.invariant.2

pub returns-then-is_spent-clause-goes_on : goal.returns-then-is_spent-clause-goes_on
returns-then-is_spent-clause-goes_on g c =
    goes_on_then (state g.F.Store c.args.tx.now.conn.now) (state g.F.Store c.loop-number.tx.conn.now)
    (state g.F.Store c.put_piece.new.tx.conn.now) true c.loop-number.invariant.3 c.in-Ok.ensures.goes_on

pub returns-then-is_spent-clause-copies : goal.returns-then-is_spent-clause-copies
returns-then-is_spent-clause-copies g c clean good later stands zip is mid adds filling =
    let range : SFits w64 c.args.id = search rules in
    let whole = to_z-of_z {w = w64} {z = c.args.id} range in
    let so_far = c.loop-number.invariant in
    let put = c.in-Ok.ensures in
    let at = state g.F.Store c.loop-number.tx.conn.now in
    let end = state g.F.Store c.put_piece.new.tx.conn.now in
    let n = c.loop-number.number in
    let early = was_clean (state g.S.Store c.loop-number.source) (state g.S.Store c.find_piece.new.conn)
    c.find_piece.ensures.spares.clean clean in
    let was = (rw whole at so_far.4) early (was_clean at end put.goes_on.survives.clean good) later stands zip is mid
    adds filling in
    let same = (so_far.1 early later stands).0 in
    let answer = rw whole at (c.in_ok-row.ensures.answer clean later (so_far.0.stays later stands)).1 in
    let shows = subst (ShowsPieceIn zip n) c.in-Some.is
    (answer zip (subst (λ (d : Database). IsZip d.trees c.args.id zip) (sym same) is)) in
    let it = rw (whole, shows.1, shows.2) at (put.puts good was.1) in
    let added = adds_piece c.args.id zip n mid at.now.trees end.now.trees was.0 shows.0 it.0 in
    (it.1, added)
