use Rattle.std.proofs.Common.{ℕ, List, [], map, take_all, sym, ap, ◌∙◌}
use Rattle.std.proofs.lemmas.List.{map_more}
use Rattle.std.specs.Borrow.{Bor}
use Rattle.std.specs.FinSet as set
use Rattle.sqlite.specs.Held.{state}
use Rattle.tables.proofs.FailureLemmas.{was_clean}
use Rattle.world.specs.Lines.{in_order}
use Rattle.world.specs.Versions.{named, by_precedence}
use Rattle.world.specs.Visible.{versions_on}
use Rattle.statements.proofs.CallLemmas.{spares_then}
use Rattle.statements.proofs.ExtractLemmas.{spares_itself}
use Rattle.statements.proofs.VisibleLemmas.{versions_more}
use Rattle.statements.proofs.visible.find_versions.Goals as goal

pub loop-shelf-init : goal.loop-shelf-init
loop-shelf-init g c = (spares_itself (state g.S.Store c.args.conn.now), λ clean w stands. c.new-texts.ensures)

pub loop-shelf-preserved : goal.loop-shelf-preserved
loop-shelf-preserved g c =
    let mid = state g.S.Store c.loop-shelf.conn in
    let new = state g.S.Store c.add_versions.new.conn in
    let nothing : Bor (List ℕ) = record { ref_ptr = (0, 0); now = [] } in (
      spares_then _ _ _ c.loop-shelf.invariant.0 c.add_versions.ensures.spares,
      λ clean w stands.
          let before = c.loop-shelf.invariant.1 (was_clean mid new c.add_versions.ensures.spares.clean clean) w
          stands in
          let added = c.in_ok-add_versions.ensures.adds clean w (c.loop-shelf.invariant.0.stays w stands) in
          let more = map_more (λ (s : Bor (List ℕ)). s.now) c.args.shelves.now c.loop-shelf.shelf-index nothing
          c.loop-shelf-test.true in
          added ∙ (ap (set.union _) before
          ∙ (sym (versions_more w _ _ c.args.path.now) ∙ ap (λ ss. versions_on w ss c.args.path.now) (sym more))),
    )

pub returns-in_err-add_versions-clause-spares : goal.returns-in_err-add_versions-clause-spares
returns-in_err-add_versions-clause-spares g c = spares_then _ _ _ c.loop-shelf.invariant.0 c.add_versions.ensures.spares

pub returns-clause-answer : goal.returns-clause-answer
returns-clause-answer g c clean w stands =
    let texts = c.loop-shelf.invariant.1 clean w stands in
    let whole = take_all c.loop-shelf.shelf-index c.args.shelves.now c.loop-shelf-test.false in
    c.in_ok-ascending.ensures
    ∙ ap (λ ts. in_order (by_precedence (named (in_order ts))))
    (texts ∙ ap (λ ss. versions_on w (map (λ (s : Bor (List ℕ)). s.now) ss) c.args.path.now) whole)
