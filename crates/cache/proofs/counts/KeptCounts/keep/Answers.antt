use Rattle.std.proofs.Common.{◌<◌, sym, subst, arith}
use Rattle.world.specs.World.{World}
use Rattle.world.specs.Counts.{AreCounts}
use Rattle.world.proofs.Counted.{empty_counts}
use Rattle.cache.specs.Counts.{HasAtMost}
use Rattle.cache.specs.Weights.{most_counts}
use Rattle.cache.specs.declared.counts.KeptCounts.TheInside.{Inside}
use Rattle.cache.proofs.CountLemmas.{none_counted, one_more_counted}
use Rattle.cache.proofs.counts.KeptCounts.keep.Goals.{then-self-ge-MOST_COUNTS, else-self-ge-MOST_COUNTS}
use Rattle.cache.proofs.counts.KeptCounts.keep.Goals as goal

-- there is room for one more
abbrev Has : Inside → Type 0
Has i = HasAtMost i.counts i.number × (i.number < most_counts)

pub invariant_of-self : goal.invariant_of-self
invariant_of-self c =
    let now = c.if-self-ge-MOST_COUNTS.self-inside in
    let room : Has now =
    elim c.if-self-ge-MOST_COUNTS.branch [
      | then-self-ge-MOST_COUNTS b ↦
          subst Has (sym b.self-inside-is) (none_counted b.new.result b.new.ensures 0, omega arith)
      | else-self-ge-MOST_COUNTS b ↦
          subst Has (sym b.self-inside-is) (c.self.invariant.0, b.if-self-ge-MOST_COUNTS.false)
    ] in
    let less = room.1 in (
      one_more_counted now.counts c.args.shelf.now c.args.path.now c.args.number c.keep.new.self now.number
          c.keep.ensures.kept room.0,
      omega (arith, less),
    )

pub returns : goal.returns
returns c =
    let now = c.if-self-ge-MOST_COUNTS.self-inside in
    let kept : (w : World) → AreCounts w c.args.self.now → AreCounts w now.counts = λ w right.
    elim c.if-self-ge-MOST_COUNTS.branch [
      | then-self-ge-MOST_COUNTS b ↦
          subst (λ (i : Inside). AreCounts w i.counts) (sym b.self-inside-is)
          (empty_counts w b.new.result b.new.ensures)
      | else-self-ge-MOST_COUNTS b ↦
          subst (λ (i : Inside). AreCounts w i.counts) (sym b.self-inside-is)
          (subst (AreCounts w) (sym c.self.view_is) right)
    ] in
    record { counts = λ w right is. c.keep.ensures.counts w (kept w right) is }
