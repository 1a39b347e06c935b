use Rattle.std.proofs.Common.{◌≡◌, ◌∙◌, sym, subst, arith, rules}
use Rattle.std.specs.FinMap as map
use Rattle.world.specs.FinMaps.{by_text}
use Rattle.cache.specs.Absences.{AreAbsent}
use Rattle.cache.proofs.AbsenceLemmas.{with_shelf_at, none_absent, one_absent, one_more_pair}
use Rattle.cache.proofs.absences.Absences.add.Goals as goal

pub returns-then-is_err : goal.returns-then-is_err
returns-then-is_err c = λ w _ _. none_absent w (by_text c.drop.inside.paths.entries) (c.drop.view_is ∙ c.new.ensures)

pub invariant_of-self-2 : goal.invariant_of-self-2
invariant_of-self-2 c =
    let was = by_text c.self.inside.paths.entries in
    let put : by_text c.put.new.paths.entries ≡ with_shelf_at was c.args.path.now c.args.shelf.now = search rules in
    let room = c.if-self-ge-MOST_ABSENCES.false in (
      one_more_pair was (by_text c.put.new.paths.entries) c.args.path.now c.args.shelf.now c.self.inside.number put
          c.self.invariant.0,
      omega (arith, room),
    )

pub returns : goal.returns
returns c = λ w are is.
    let was = by_text c.self.inside.paths.entries in
    let put : by_text c.put.new.paths.entries ≡ with_shelf_at was c.args.path.now c.args.shelf.now = search rules in
    one_absent w was (by_text c.put.new.paths.entries) c.args.path.now c.args.shelf.now put
    (subst (AreAbsent w) (sym c.self.view_is) are) is
