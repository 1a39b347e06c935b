use Rattle.std.proofs.Common.{◌≡◌, false, true, Err, refl, sym, ap, subst, ◌∙◌, ℕ, List, map, Decides}
use Rattle.std.specs.FinSet as set
use Rattle.sqlite.specs.Held.{state}
use Rattle.world.specs.World.{text_cmp}
use Rattle.tables.specs.Fit.{AreShelvesFit, shelf_shown}
use Rattle.tables.proofs.ListingLemmas.{shelf_rows}
use Rattle.tables.proofs.FitTests.{answered, refused, shelves_true, shelves_false}
use Rattle.tables.proofs.Maps.{no_text}
use Rattle.tables.proofs.WalkCauses.{walkable, walk_reason, error_says}
use Rattle.tables.proofs.fit.are_shelves_fit.Goals as goal

none_of : (s : set.FinSet text_cmp) → s ≡ set.empty → (u : List ℕ) → set.contains s u ≡ true → ⊥
none_of s is u h = no_text u (ap (λ x. set.contains x u) (sym is) ∙ h)

pub rows_pass-requires : goal.rows_pass-requires
rows_pass-requires g c =
    record { plain = shelf_rows.plain; tables = shelf_rows.unlisted; walkable = walkable shelf_rows }

pub returns-then-not-branch-clause-tests : goal.returns-then-not-branch-clause-tests
returns-then-not-branch-clause-tests g c =
    let old = state g.S.Store c.args.conn.now in
    answered old (state g.S.Store c.rows_pass.new.conn) false _ c.rows_pass.ensures.looks c.in_ok-rows_pass.ensures.same
    (λ clean has. refused
    (shelves_false old.now _ c.rows_pass.new.test (none_of _ c.new.ensures) (none_of _ c.new-2.ensures) refl
    (rw c.if-not-branch.true at (c.in_ok-rows_pass.ensures.answer clean has))))

pub returns-clause-tests : goal.returns-clause-tests
returns-clause-tests g c =
    let old = state g.S.Store c.args.conn.now in
    answered old (state g.S.Store c.rows_pass.new.conn) c.are_whole.result _ c.rows_pass.ensures.looks
    c.in_ok-rows_pass.ensures.same
    (λ clean has. subst (λ b. Decides b (AreShelvesFit (map shelf_shown (old.now.trees 2)))) (sym c.are_whole.ensures)
    (shelves_true old.now _ c.rows_pass.new.test (none_of _ c.new.ensures) (none_of _ c.new-2.ensures)
    (rw c.if-not-branch.false at (c.in_ok-rows_pass.ensures.answer clean has))))

pub returns-in_err-rows_pass-clause-cause : goal.returns-in_err-rows_pass-clause-cause
returns-in_err-rows_pass-clause-cause g c clean has =
    let old = state g.S.Store c.args.conn.now in
    error_says _ c.from_residual.result c.in_err-rows_pass.field-0.0 c.from_residual.ensures.1
    (walk_reason shelf_rows old (state g.S.Store c.rows_pass.new.conn) (Err _) has
    (c.in_err-rows_pass.ensures.cause clean has))
