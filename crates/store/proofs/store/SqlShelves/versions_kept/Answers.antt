use Rattle.std.proofs.Common.{◌≡◌, min, Ok, rules}
use Rattle.sqlite.specs.Held.{state}
use Rattle.statements.specs.Counted.{most_counted}
use Rattle.store.proofs.CountedLemmas.{total_of_count, count_of_total}
use Rattle.store.proofs.StoreLemmas.{counted_cause, reads_counted_none, reads_keeping, reads_kept}
use Rattle.store.proofs.store.SqlShelves.versions_kept.Goals as goal

pub returns-in-Some : goal.returns-in-Some
returns-in-Some g c =
    let kept = c.args.self.now.kept in
    let capped : c.min.result ≡ min c.in-Some.total most_counted = search rules in
    record {
      reads = reads_kept (state g.S.Store c.args.self.now.conn) kept kept c.args.self.now.failures c.min.result _
          (λ w right. (count_of_total w kept.total c.in-Some.total c.min.result c.in-Some.is capped right.0.1, right));
    }

pub returns : goal.returns
returns g c =
    let answer = rw c.in_ok-count.ensures.ok at c.count_versions.ensures.answer in
    let kept = record c.args.self.now.kept { total = c.exact-self.result } in
    record {
      reads = reads_keeping (state g.S.Store c.args.self.now.conn) (state g.S.Store c.count_versions.new.conn)
          c.args.self.now.kept kept c.args.self.now.failures _ (Ok c.in_ok-count.count) _
          c.count_versions.ensures.spares (counted_cause _ _ _ _ c.in_ok-count.ensures)
          (λ clean w stands right.
          let is = answer clean w stands in (
            is,
            (
              (right.0.0, total_of_count w c.in_ok-count.count c.exact-self.result c.exact-self.ensures is),
              right.1,
              right.2,
              right.3,
            ),
          ));
    }

pub returns-in_err-count : goal.returns-in_err-count
returns-in_err-count g c =
    record {
      reads = reads_counted_none (state g.S.Store c.args.self.now.conn) (state g.S.Store c.count_versions.new.conn)
          c.args.self.now.kept c.args.self.now.failures _ _ _ c.from_residual.result _
          c.count_versions.ensures.spares c.from_residual.ensures c.in_err-count.ensures;
    }
