use Rattle.std.proofs.Common.{Ok, refl}
use Rattle.sqlite.specs.Held.{state}
use Rattle.store.specs.Shown.{shown_with}
use Rattle.store.proofs.StoreLemmas.{reads_as, reads_kept, reads_then, reads_failed, reads_with_less}
use Rattle.store.proofs.store.SqlShelves.keep_if_missed.Goals as goal

pub returns-then-not-wants_versions : goal.returns-then-not-wants_versions
returns-then-not-wants_versions g c =
    record {
      reads = reads_kept (state g.S.Store c.args.self.now.conn) c.args.self.now.kept c.wants_versions.new.self
          c.args.self.now.failures tt _
          (λ w right. (refl, c.wants_versions.ensures w right));
    }

pub returns : goal.returns
returns g c =
    let conn = state g.S.Store c.args.self.now.conn in
    let less = c.wants_versions.new.self in
    let start = shown_with conn less c.args.self.now.failures in
    let read = c.in_ok-versions.ensures.reads in
    let kept = rw c.as_slice.ensures at c.keep_versions.ensures in
    record {
      reads = reads_with_less conn c.args.self.now.kept less c.args.self.now.failures _ (Ok tt) _
          c.wants_versions.ensures
          (reads_as start _ (λ _. tt) c.in_ok-versions.versions tt _ _ refl (λ w. refl)
          (reads_then start (state g.S.Store c.take_versions.new.self.conn) c.take_versions.new.self.kept
          c.keep_versions.new.self _ (Ok c.in_ok-versions.versions) _ read
          (λ clean w stands right. kept w right (read.at clean w stands).answer)));
    }

pub returns-in_err-versions : goal.returns-in_err-versions
returns-in_err-versions g c =
    record {
      reads = reads_with_less (state g.S.Store c.args.self.now.conn) c.args.self.now.kept c.wants_versions.new.self
          c.args.self.now.failures _ _ _ c.wants_versions.ensures
          (reads_failed _ _ _ c.from_residual.result _ _ c.from_residual.ensures c.in_err-versions.ensures.reads);
    }
