use Rattle.std.proofs.Common.{◌≡◌, ◌+◌, ◌∙◌, inl, inr, sym, ap, rules}
use Rattle.std.specs.Prelude.{Some}
use Rattle.world.specs.World.{place, with_entry}
use Rattle.world.specs.FinMaps.{get_under, put_under}
use Rattle.world.proofs.Counted.{empty_counts, raised_counts, other_counts}
use Rattle.cache.proofs.CountLemmas.{as_many_counted}
use Rattle.cache.proofs.counts.KeptCounts.raise.Goals as goal

pub returns-in_default : goal.returns-in_default
returns-in_default c = λ w v e _ right.
    other_counts w (place c.args.shelf.now c.args.path.now v) e c.args.self.now (sym c.in_default.ensures) right

pub invariant_of-self : goal.invariant_of-self
invariant_of-self c =
    let kept : get_under c.self.inside.counts c.args.shelf.now c.args.path.now ≡ Some c.in-Some.number =
    ap (λ t. get_under t c.args.shelf.now c.args.path.now) c.self.view_is ∙ sym c.in-Some.ensures in (
      as_many_counted c.self.inside.counts c.args.shelf.now c.args.path.now c.in-Some-checked_add.more c.keep.new.self
          c.self.inside.number c.in-Some.number
          c.keep.ensures.kept kept c.self.invariant.0,
      c.self.invariant.1,
    )

pub returns-in-Some-checked_add : goal.returns-in-Some-checked_add
returns-in-Some-checked_add c = λ w v e free right.
    let more : c.in-Some-checked_add.more ≡ c.in-Some.number + 1 = search rules in
    let put = put_under c.args.self.now c.args.shelf.now c.args.path.now in
    let was = ap (λ t. put_under t c.args.shelf.now c.args.path.now c.in-Some-checked_add.more) c.self.view_is in
    raised_counts w (place c.args.shelf.now c.args.path.now v) e free c.args.self.now c.keep.new.self c.in-Some.number
    (sym c.in-Some.ensures)
    (elim c.keep.ensures.kept [ inl is ↦ inl (is ∙ was ∙ ap put more) | inr none ↦ inr none ])
    right

pub returns-in-None : goal.returns-in-None
returns-in-None c = λ w v e _ _.
    empty_counts (with_entry w (place c.args.shelf.now c.args.path.now v) e) c.drop.inside.counts
    (c.drop.view_is ∙ c.new.ensures)
