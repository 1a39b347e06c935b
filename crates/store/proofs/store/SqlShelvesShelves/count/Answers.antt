use Rattle.std.proofs.Common.{sym, Ok}
use Rattle.sqlite.specs.Held.{state}
use Rattle.store.proofs.StoreLemmas.{counted_cause, reads_keeping, reads_kept, reads_counted_none}
use Rattle.store.proofs.store.SqlShelvesShelves.count.Goals as goal

pub returns-in-Some : goal.returns-in-Some
returns-in-Some g c =
    let kept = rw c.as_str.ensures.value at c.in-Some.ensures in
    record {
      reads = reads_kept (state g.S.Store c.args.self.now.conn) c.args.self.now.kept c.args.self.now.kept
          c.args.self.now.failures c.in-Some.count _
          (λ w right. (right.0.0 c.args.shelf.now _ c.in-Some.count (sym kept), right));
    }

pub returns : goal.returns
returns g c =
    let answer = rw (c.as_str-2.ensures.value, c.in_ok-count.ensures.ok) at c.count_entries-count.ensures.answer in
    let kept = rw c.as_str-3.ensures.value at c.keep.ensures.counts in
    record {
      reads = reads_keeping (state g.S.Store c.args.self.now.conn) (state g.S.Store c.count_entries-count.new.conn)
          c.args.self.now.kept (record c.args.self.now.kept { counts = c.keep.new.self })
          c.args.self.now.failures _ (Ok c.in_ok-count.count) _ c.count_entries-count.ensures.spares
          (counted_cause _ _ _ _ c.in_ok-count.ensures)
          (λ clean w stands right. let is = answer clean w stands in
          (is, ((kept w right.0.0 is, right.0.1), right.1, right.2, right.3)));
    }

pub returns-in_err-count : goal.returns-in_err-count
returns-in_err-count g c =
    record {
      reads = reads_counted_none (state g.S.Store c.args.self.now.conn) (state g.S.Store c.count_entries-count.new.conn)
          c.args.self.now.kept c.args.self.now.failures _ _ _ c.from_residual.result _
          c.count_entries-count.ensures.spares c.from_residual.ensures c.in_err-count.ensures;
    }
