use Rattle.std.proofs.Common.{Ok}
use Rattle.sqlite.specs.Held.{state}
use Rattle.store.specs.Shown.{shown_with}
use Rattle.store.proofs.StoreLemmas.{reads_kept, reads_then, reads_failed, reads_with_less}
use Rattle.store.proofs.store.SqlShelvesShelves.versions.Goals as goal

pub returns-in-Some : goal.returns-in-Some
returns-in-Some g c =
    let found = rw c.as_str.ensures.value at c.in-Some.ensures.found in
    record {
      reads = reads_kept (state g.S.Store c.args.self.now.conn) c.args.self.now.kept c.versions.new.self
          c.args.self.now.failures c.in-Some.versions _
          (λ w right. (found w right, c.versions.ensures.others w right));
    }

pub returns : goal.returns
returns g c =
    let conn = state g.S.Store c.args.self.now.conn in
    let less = c.versions.new.self in
    let read = rw c.as_str-2.ensures.value at c.in_ok-found.ensures.reads in
    let kept = rw (c.as_str-3.ensures.value, c.as_slice.ensures) at c.keep_versions.ensures in
    record {
      reads = reads_with_less conn c.args.self.now.kept less c.args.self.now.failures _ (Ok c.in_ok-found.found) _
          c.versions.ensures.others
          (reads_then (shown_with conn less c.args.self.now.failures) (state g.S.Store c.take_versions.new.self.conn)
          c.take_versions.new.self.kept
          c.keep_versions.new.self _ (Ok c.in_ok-found.found) _ read
          (λ clean w stands right. kept w right (read.at clean w stands).answer));
    }

pub returns-in_err-found : goal.returns-in_err-found
returns-in_err-found g c =
    record {
      reads = reads_with_less (state g.S.Store c.args.self.now.conn) c.args.self.now.kept c.versions.new.self
          c.args.self.now.failures _ _ _ c.versions.ensures.others
          (reads_failed _ _ _ c.from_residual.result _ _ c.from_residual.ensures c.in_err-found.ensures.reads);
    }
