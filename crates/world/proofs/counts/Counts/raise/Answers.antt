use Rattle.std.proofs.Common.{◌≡◌, ◌+◌, inl, inr, sym, ap, ◌∙◌, rules}
use Rattle.world.specs.World.{place, with_entry}
use Rattle.world.specs.FinMaps.{put_under}
use Rattle.world.proofs.Counted.{empty_counts, raised_counts, other_counts}
use Rattle.world.proofs.counts.Counts.raise.Goals as goal

pub returns-in_default : goal.returns-in_default
returns-in_default c = λ w v e _ right.
    other_counts w (place c.args.shelf.now c.args.path.now v) e c.args.self.now (sym c.in_default.ensures) right

pub returns-in-Some-checked_add : goal.returns-in-Some-checked_add
returns-in-Some-checked_add c = λ w v e free right.
    let more : c.in-Some-checked_add.more ≡ c.in-Some.number + 1 = search rules in
    raised_counts w (place c.args.shelf.now c.args.path.now v) e free c.args.self.now c.keep.new.self c.in-Some.number
    (sym c.in-Some.ensures)
    (elim c.keep.ensures.kept [
      | inl put ↦ inl (put ∙ ap (put_under c.args.self.now c.args.shelf.now c.args.path.now) more)
      | inr none ↦ inr none
    ])
    right

pub returns-in-None : goal.returns-in-None
returns-in-None c = λ w v e _ _.
    empty_counts (with_entry w (place c.args.shelf.now c.args.path.now v) e) c.new.result c.new.ensures
