use Rattle.std.proofs.Common.{◌≡◌, true, Some, None, sym, ap, arith, rules}
use Rattle.sqlite.specs.Held.{state}
use Rattle.outline.specs.Seen.{seen_heading}
use Rattle.cache.proofs.RecentLemmas.{fewer_held}
use Rattle.world.proofs.Causes.{answers}
use Rattle.store.proofs.StoreLemmas.{reads_kept, reads_failed, reads_next, reads_with_less}
use Rattle.store.proofs.store.SqlShelves.seen.Goals as goal

pub returns-in-Some : goal.returns-in-Some
returns-in-Some g c =
    let less = record c.args.self.now.kept { headings = c.seen.new.self } in
    record {
      reads = reads_kept (state g.S.Store c.args.self.now.conn) c.args.self.now.kept less c.args.self.now.failures
          (Some c.in-Some.seen) _
          (λ w right. (
            c.in-Some.ensures.found w right.3.1,
            (
              right.0,
              right.1,
              right.2,
              (
                right.3.0,
                fewer_held _ c.args.self.now.kept.headings c.seen.new.self c.seen.ensures.others right.3.1,
                right.3.2,
              ),
            ),
          ));
    }

pub returns-in_err-keep_if_missed : goal.returns-in_err-keep_if_missed
returns-in_err-keep_if_missed g c =
    let less = record c.args.self.now.kept { headings = c.seen.new.self } in
    record {
      reads = reads_with_less (state g.S.Store c.args.self.now.conn) c.args.self.now.kept less c.args.self.now.failures
          _ _ _
          (λ w right. (
            right.0,
            right.1,
            right.2,
            (
              right.3.0,
              fewer_held _ c.args.self.now.kept.headings c.seen.new.self c.seen.ensures.others right.3.1,
              right.3.2,
            ),
          ))
          (reads_failed _ _ _ c.from_residual.result _ _ c.from_residual.ensures c.in_err-keep_if_missed.ensures.reads);
    }

pub returns-then-lacks : goal.returns-then-lacks
returns-then-lacks g c =
    let less = record c.args.self.now.kept { headings = c.seen.new.self } in
    let missing : c.lacks.result ≡ true = search rules in
    record {
      reads = reads_with_less (state g.S.Store c.args.self.now.conn) c.args.self.now.kept less c.args.self.now.failures
          _ _ _
          (λ w right. (
            right.0,
            right.1,
            right.2,
            (
              right.3.0,
              fewer_held _ c.args.self.now.kept.headings c.seen.new.self c.seen.ensures.others right.3.1,
              right.3.2,
            ),
          ))
          (reads_next _ _ _ tt _ _ _ c.in_ok-keep_if_missed.ensures.reads (record {
            honest = λ clean. clean;
            at = λ clean w stands. record {
              answer = sym (ap seen_heading (c.lacks.ensures.found missing w stands.0.1 stands.1));
              stays = (stands.0, c.lacks.ensures.others w stands.1);
              left = λ _ _ only. only;
            };
            cause = answers _ _ None (omega arith);
          }));
    }

pub returns : goal.returns
returns g c =
    let less = record c.args.self.now.kept { headings = c.seen.new.self } in
    record {
      reads = reads_with_less (state g.S.Store c.args.self.now.conn) c.args.self.now.kept less c.args.self.now.failures
          _ _ _
          (λ w right. (
            right.0,
            right.1,
            right.2,
            (
              right.3.0,
              fewer_held _ c.args.self.now.kept.headings c.seen.new.self c.seen.ensures.others right.3.1,
              right.3.2,
            ),
          ))
          (reads_next _ _ _ tt _ _ _ c.in_ok-keep_if_missed.ensures.reads
          (reads_with_less (state g.S.Store c.keep_if_missed.new.self.conn) c.keep_if_missed.new.self.kept
          c.lacks.new.self c.keep_if_missed.new.self.failures _ _ _
          c.lacks.ensures.others c.find_heading.ensures.reads));
    }
