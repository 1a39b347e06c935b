use Rattle.std.proofs.Common.{◌≡◌, inl, rules}
use Rattle.world.specs.FinMaps.{put_under}
use Rattle.world.proofs.Counted.{empty_counts, kept_counts}
use Rattle.world.proofs.counts.Counts.keep.Goals as goal

pub returns-then-is_err-clause-counts : goal.returns-then-is_err-clause-counts
returns-then-is_err-clause-counts c = λ w _ _. empty_counts w c.new.result c.new.ensures

pub returns-else-is_err-clause-counts : goal.returns-else-is_err-clause-counts
returns-else-is_err-clause-counts c = λ w right is.
    let put : c.insert_under.new.self ≡ put_under c.args.self.now c.args.shelf.now c.args.path.now c.args.number =
    search rules in
    kept_counts w c.args.self.now c.insert_under.new.self c.args.shelf.now c.args.path.now c.args.number (inl put) right
    is
