use Rattle.std.proofs.Common.{◌++◌, List, ℕ, sym, ap, subst, ◌∙◌, to_z-of_z, w64, SFits, rules}
use Rattle.sqlite.specs.Held.{state}
use Rattle.sqlite.specs.Effect.{Database}
use Rattle.tables.proofs.FailureLemmas.{was_clean}
use Rattle.statements.specs.Reading.{IsZip, ShowsPiece}
use Rattle.statements.proofs.CallLemmas.{spares_then}
use Rattle.statements.proofs.PieceLemmas.{all_there, goes_on, goes_off, bytes_same, cut_off, not_cut}
use Rattle.statements.proofs.pieces.is_same_zip.Goals as goal

pub returns-in_err-row-clause-spares : goal.returns-in_err-row-clause-spares
returns-in_err-row-clause-spares g c = spares_then _ _ _ c.loop-number.invariant.0 c.find_piece.ensures.spares

pub returns-in_default-clause-spares : goal.returns-in_default-clause-spares
returns-in_default-clause-spares g c = spares_then _ _ _ c.loop-number.invariant.0 c.find_piece.ensures.spares

pub returns-in_default-clause-answer : goal.returns-in_default-clause-answer
returns-in_default-clause-answer g c clean w stands =
    let old = state g.S.Store c.args.conn.now in
    let now = state g.S.Store c.loop-number.conn in
    let so_far = c.loop-number.invariant.1
    (was_clean now (state g.S.Store c.find_piece.new.conn) c.find_piece.ensures.spares.clean clean) w stands in
    let range : SFits w64 c.args.id = search rules in
    let id = to_z-of_z {w = w64} {z = c.args.id} range in
    let h = rw id at (c.in_ok-row.ensures.answer clean w (c.loop-number.invariant.0.stays w stands)) in
    let shows = subst (ShowsPiece now.now.trees c.args.id c.loop-number.number) c.in_default.is h.1 in (
      h.0,
      λ there is.
          let before = so_far.1 there (subst (λ n. IsZip old.now.trees n there) (sym id) is) in
          c.is_empty.ensures ∙ all_there there _ _ c.loop-number.number before
          (shows there (subst (λ (d : Database). IsZip d.trees c.args.id there) (sym so_far.0) is)),
    )

pub returns-in_err-lent_bytes-clause-spares : goal.returns-in_err-lent_bytes-clause-spares
returns-in_err-lent_bytes-clause-spares g c = spares_then _ _ _ c.loop-number.invariant.0 c.find_piece.ensures.spares

pub returns-in-None-clause-spares : goal.returns-in-None-clause-spares
returns-in-None-clause-spares g c = spares_then _ _ _ c.loop-number.invariant.0 c.find_piece.ensures.spares

pub returns-in-None-clause-answer : goal.returns-in-None-clause-answer
returns-in-None-clause-answer g c clean w stands =
    let old = state g.S.Store c.args.conn.now in
    let now = state g.S.Store c.loop-number.conn in
    let so_far = c.loop-number.invariant.1
    (was_clean now (state g.S.Store c.find_piece.new.conn) c.find_piece.ensures.spares.clean clean) w stands in
    let range : SFits w64 c.args.id = search rules in
    let id = to_z-of_z {w = w64} {z = c.args.id} range in
    let h = rw id at (c.in_ok-row.ensures.answer clean w (c.loop-number.invariant.0.stays w stands)) in
    let shows = subst (ShowsPiece now.now.trees c.args.id c.loop-number.number) c.in-Some.is h.1 in (
      h.0,
      λ there is.
          let before = so_far.1 there (subst (λ n. IsZip old.now.trees n there) (sym id) is) in
          let own = subst (λ (d : Database). IsZip d.trees c.args.id there) (sym so_far.0) is in
          let same = bytes_same (sym c.in_ok-lent_bytes.ensures ∙ (shows there own).1) in
          goes_off there _ _ c.loop-number.number before
          (λ later split. not_cut _ _ _ c.in-None.is c.strip_prefix.ensures.cases later
          (split ∙ ap (λ (l : List ℕ). l ++ later) (sym same))),
    )

pub loop-number-preserved : goal.loop-number-preserved
loop-number-preserved g c =
    let old = state g.S.Store c.args.conn.now in
    let now = state g.S.Store c.loop-number.conn in
    let n = c.loop-number.number in
    let range : SFits w64 c.args.id = search rules in
    let id = to_z-of_z {w = w64} {z = c.args.id} range in (
      spares_then _ _ _ c.loop-number.invariant.0 c.find_piece.ensures.spares,
      λ clean w stands.
          let so_far = c.loop-number.invariant.1
          (was_clean now (state g.S.Store c.find_piece.new.conn) c.find_piece.ensures.spares.clean clean) w
          stands in
          let stays = c.loop-number.invariant.0.stays w stands in
          let h = rw id at (c.in_ok-row.ensures.answer clean w stays) in
          let shows = subst (ShowsPiece now.now.trees c.args.id n) c.in-Some.is h.1 in (
            c.in_ok-row.ensures.same clean w stays ∙ so_far.0,
            λ there is.
                let own = subst (λ (d : Database). IsZip d.trees c.args.id there) (sym so_far.0)
                (subst (λ m. IsZip old.now.trees m there) id is) in
                let same = bytes_same (sym c.in_ok-lent_bytes.ensures ∙ (shows there own).1) in
                goes_on there _ _ _ n (so_far.1 there is)
                (cut_off _ _ _ _ c.in-Some-strip_prefix.is c.strip_prefix.ensures.cases
                ∙ ap (λ (l : List ℕ). l ++ c.in-Some-strip_prefix.later.now) same),
          ),
    )
