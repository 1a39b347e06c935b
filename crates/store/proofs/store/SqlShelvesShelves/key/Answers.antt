use Rattle.std.proofs.Common.{◌∙◌, Some, Ok, sym}
use Rattle.sqlite.specs.Held.{state}
use Rattle.cache.proofs.RecentLemmas.{fewer_held}
use Rattle.store.proofs.StoreLemmas.{counted_cause, reads_counted_none, reads_kept, reads_keeping, reads_with_less}
use Rattle.store.proofs.store.SqlShelvesShelves.key.Goals as goal

pub returns-in-Some : goal.returns-in-Some
returns-in-Some g c =
    let less = record c.args.self.now.kept { keys = c.holder.new.self } in
    record {
      reads = reads_kept (state g.S.Store c.args.self.now.conn) c.args.self.now.kept less c.args.self.now.failures
          (Some c.in-Some.holder) _
          (λ w right. (
            sym (c.in-Some.ensures.found w right.3.2),
            (
              right.0,
              right.1,
              right.2,
              (
                right.3.0,
                right.3.1,
                fewer_held _ c.args.self.now.kept.keys c.holder.new.self c.holder.ensures.others
                    right.3.2,
              ),
            ),
          ));
    }

pub returns : goal.returns
returns g c =
    let found = rw c.in_ok-found.ensures.ok at c.find_key.ensures.answer in
    let conn = state g.S.Store c.args.self.now.conn in
    let less = record c.args.self.now.kept { keys = c.holder.new.self } in
    record {
      reads = reads_with_less conn c.args.self.now.kept less c.args.self.now.failures _ (Ok c.in_ok-found.found) _
          (λ w right. (
            right.0,
            right.1,
            right.2,
            (
              right.3.0,
              right.3.1,
              fewer_held _ c.args.self.now.kept.keys c.holder.new.self c.holder.ensures.others
                  right.3.2,
            ),
          ))
          (reads_keeping conn (state g.S.Store c.find_key.new.conn) less (record less { keys = c.keep_holder.new.self })
          c.args.self.now.failures _ (Ok c.in_ok-found.found) _ c.find_key.ensures.spares
          (counted_cause _ _ _ _ c.in_ok-found.ensures)
          (λ clean w stands right.
          let answer = (found clean w stands.0).2 in (
            answer,
            (
              right.0,
              right.1,
              right.2,
              (right.3.0, right.3.1, c.keep_holder.ensures w right.3.2 (sym (c.as_ref.ensures.value ∙ answer))),
            ),
          )));
    }

pub returns-in_err-found : goal.returns-in_err-found
returns-in_err-found g c =
    let conn = state g.S.Store c.args.self.now.conn in
    let less = record c.args.self.now.kept { keys = c.holder.new.self } in
    record {
      reads = reads_with_less conn c.args.self.now.kept less c.args.self.now.failures _ c.from_residual.result _
          (λ w right. (
            right.0,
            right.1,
            right.2,
            (
              right.3.0,
              right.3.1,
              fewer_held _ c.args.self.now.kept.keys c.holder.new.self c.holder.ensures.others
                  right.3.2,
            ),
          ))
          (reads_counted_none conn
          (state g.S.Store c.find_key.new.conn) less c.args.self.now.failures _ _ _ c.from_residual.result _
          c.find_key.ensures.spares c.from_residual.ensures c.in_err-found.ensures);
    }
