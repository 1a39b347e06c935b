use Rattle.sqlite.specs.Held.{state}
use Rattle.store.specs.Shown.{shown_with}
use Rattle.runner.proofs.CopyLemmas.{recounted}
use Rattle.runner.proofs.copies.copy_into.Goals as goal

pub returns-clause-turns : goal.returns-clause-turns
returns-clause-turns g c =
    let went = c.copy_between.ensures.went in (
      record c.copy_between.new.self { failures = went.0 },
      went.1,
      recounted (shown_with (state g.S.Store c.copy_between.new.self.conn) c.copy_between.new.self.kept 0) went.0
          c.copy_between.new.self.failures went.2.no_fewer,
    )

pub returns-clause-came : goal.returns-clause-came
returns-clause-came g c =
    let made = c.copy_between.ensures in record {
      end = c.copy_between.result;
      honest = made.honest;
      honest_too = made.honest_too;
      spares = made.spares;
      at = made.copies;
      failures = made.went.0;
      no_fewer = g.met.B.Between.no_fewer c.args.between.now c.copy_between.new.between c.args.source.now
          (record c.copy_between.new.self { failures = made.went.0 }) made.went.1;
      cause = made.went.2;
      ends = c.copied.ensures.value;
    }
