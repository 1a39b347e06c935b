use Rattle.std.proofs.Common.{List, ℕ, Some, None, Ok, ◌≡◌}
use Rattle.sqlite.specs.Held.{state}
use Rattle.world.specs.Latest.{AllOf, highest}
use Rattle.world.proofs.Newest.{none_read, latest_read}
use Rattle.store.specs.Shown.{shown_with}
use Rattle.store.proofs.StoreLemmas.{reads_failed_next, reads_no_memory, reads_kept, reads_then, reads_failed}
use Rattle.store.proofs.StoreLemmas.{reads_with_less}
use Rattle.store.proofs.store.SqlShelvesShelves.latest.Goals as goal

pub returns-in-Some : goal.returns-in-Some
returns-in-Some g c =
    let found = rw c.as_str.ensures.value at c.in-Some.ensures.found in
    record {
      reads = reads_kept (state g.S.Store c.args.self.now.conn) c.args.self.now.kept c.latest.new.self
          c.args.self.now.failures c.in-Some.latest _
          (λ w right. (found w right, c.latest.ensures.others w right));
    }

pub returns-in_default-highest : goal.returns-in_default-highest
returns-in_default-highest g c =
    let conn = state g.S.Store c.args.self.now.conn in
    let less = c.latest.new.self in
    let vs = c.in_ok-versions.versions in
    let none : (path : List ℕ) → AllOf path vs
    → None ≡ highest vs = rw c.as_slice.ensures at c.in_default-highest.ensures in
    let read = rw c.as_str-2.ensures.value at c.in_ok-versions.ensures.reads in
    let kept = rw (
      c.as_str-in_default-highest.ensures.value,
      c.as_slice-in_default-highest.ensures,
    ) at c.keep_versions.ensures in
    let start = shown_with conn less c.args.self.now.failures in
    let all = none_read start _ (λ w stands. stands.0.1) c.args.shelf.now c.args.path.now vs read none in
    record {
      reads = reads_with_less conn c.args.self.now.kept less c.args.self.now.failures _ (Ok None) _
          c.latest.ensures.others
          (reads_then start (state g.S.Store c.take_versions.new.self.conn) c.take_versions.new.self.kept
          c.keep_versions.new.self _ (Ok None) _ all
          (λ clean w stands right. kept w right (read.at clean w stands).answer));
    }

pub returns : goal.returns
returns g c =
    let conn = state g.S.Store c.args.self.now.conn in
    let less = c.latest.new.self in
    let vs = c.in_ok-versions.versions in
    let read = rw c.as_str-2.ensures.value at c.in_ok-versions.ensures.reads in
    let top : (path : List ℕ) → AllOf path vs
    → Some c.in-Some-highest.newest.now ≡ highest vs = rw c.as_slice.ensures at c.in-Some-highest.ensures in
    let left = rw c.as_slice-2.ensures at c.in_ok-latest.ensures in
    let kept = rw c.as_str-3.ensures.value at c.keep_with_latest.ensures in
    let start = shown_with conn less c.args.self.now.failures in
    let all = latest_read start _ (λ w stands. stands.0.1) c.args.shelf.now c.args.path.now vs read _
    c.in-Some-highest.newest.now
    c.in_ok-heading.heading c.in_ok-gomod.gomod _ top c.in_ok-heading.ensures.reads c.in_ok-gomod.ensures left in
    record {
      reads = reads_with_less conn c.args.self.now.kept less c.args.self.now.failures _ (Ok c.in_ok-latest.latest) _
          c.latest.ensures.others
          (reads_then start (state g.S.Store c.heading.new.self.conn) c.heading.new.self.kept
          (record c.heading.new.self.kept { lists = c.keep_with_latest.new.self }) _ (Ok c.in_ok-latest.latest) _ all
          (λ clean w stands right. (
            right.0,
            kept w right.1 (read.at (c.in_ok-heading.ensures.reads.honest clean) w stands).answer
                (all.at clean w stands).answer,
            right.2,
            right.3,
          )));
    }

pub returns-in_err-versions : goal.returns-in_err-versions
returns-in_err-versions g c =
    let less = c.latest.new.self in
    record {
      reads = reads_with_less (state g.S.Store c.args.self.now.conn) c.args.self.now.kept less c.args.self.now.failures
          _ _ _
          c.latest.ensures.others
          (reads_failed _ _ _ c.from_residual.result _ _ c.from_residual.ensures c.in_err-versions.ensures.reads);
    }

pub returns-in_err-heading : goal.returns-in_err-heading
returns-in_err-heading g c =
    let read = c.in_ok-versions.ensures.reads in
    let then = c.in_err-heading.ensures.reads in
    record {
      reads = reads_with_less (state g.S.Store c.args.self.now.conn) c.args.self.now.kept c.latest.new.self
          c.args.self.now.failures _ _ _
          c.latest.ensures.others
          (reads_failed_next _ _ _ _ _ c.from_residual-in_err-heading.result _ _ _
          c.from_residual-in_err-heading.ensures read then);
    }

pub returns-in_err-gomod : goal.returns-in_err-gomod
returns-in_err-gomod g c =
    let read = c.in_ok-versions.ensures.reads in
    let then = c.in_ok-heading.ensures.reads in
    record {
      reads = reads_with_less (state g.S.Store c.args.self.now.conn) c.args.self.now.kept c.latest.new.self
          c.args.self.now.failures _ _ _
          c.latest.ensures.others
          (reads_no_memory _ _ _ _ _ c.from_residual-in_err-gomod.result _ _ _ c.from_residual-in_err-gomod.ensures read
          then);
    }

pub returns-in_err-latest : goal.returns-in_err-latest
returns-in_err-latest g c =
    let read = c.in_ok-versions.ensures.reads in
    let then = c.in_ok-heading.ensures.reads in
    record {
      reads = reads_with_less (state g.S.Store c.args.self.now.conn) c.args.self.now.kept c.latest.new.self
          c.args.self.now.failures _ _ _
          c.latest.ensures.others
          (reads_no_memory _ _ _ _ _ c.from_residual-in_err-latest.result _ _ _ c.from_residual-in_err-latest.ensures
          read then);
    }
