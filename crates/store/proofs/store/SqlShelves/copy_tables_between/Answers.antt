use Rattle.std.proofs.Common.{◌∙◌, true≢false, Ok, Err, sym, subst}
use Rattle.sqlite.specs.Held.{state}
use Rattle.sqlite.specs.State.{HasCleanDisk}
use Rattle.interleave.proofs.MeanwhileLemmas.{as_it_was}
use Rattle.store_files.specs.declared.refusal.StoreRefusal.TheVariants as refusal
use Rattle.statements.specs.Calls.{ChangesAt}
use Rattle.tables.proofs.FailureLemmas.{was_clean}
use Rattle.world.specs.World.{only_common}
use Rattle.store.proofs.BetweenLemmas.{no_cause, source_cause, fresh_cause, unwritten_at, written_at}
use Rattle.store.proofs.ExtractedLemmas.{is_read, fault_tells, done_is_fit, fault_is_fit}
use Rattle.store.proofs.store.SqlShelves.copy_tables_between.Goals as goal

-- ---- the fresh store has more than `common`, or cannot be read

pub returns-in-Ok-false-clause-went : goal.returns-in-Ok-false-clause-went
returns-in-Ok-false-clause-went g c = (
  c.args.self.now.failures,
  g.met.B.Between.rests c.args.between.now c.args.self.now c.args.self.now (as_it_was _),
  no_cause _ _ (Err refusal.NotEmpty) (λ is. cc),
)

pub returns-in-Ok-false-clause-spares : goal.returns-in-Ok-false-clause-spares
returns-in-Ok-false-clause-spares g c unfit =
    let old = state g.F.Store c.args.fresh.now.conn in
    let mid = state g.F.Store c.is_blank.new.conn in
    is_read old mid c.is_blank.ensures.spares

pub returns-in-Ok-false-clause-copies : goal.returns-in-Ok-false-clause-copies
returns-in-Ok-false-clause-copies g c clean good w x sw sx =
    let old = state g.F.Store c.args.fresh.now.conn in
    let mid = state g.F.Store c.is_blank.new.conn in
    let answer = c.in-Ok-false.ensures.answer good x sx.0 sx.1 in
    unwritten_at old mid w x sw.0.1 sx c.is_blank.ensures.spares refusal.NotEmpty good
    (tt, λ same. true≢false (sym (answer.1.1 same) ∙ c.in-Ok-false.field-0-test))

pub returns-in-Err-clause-went : goal.returns-in-Err-clause-went
returns-in-Err-clause-went g c = (
  c.args.self.now.failures,
  g.met.B.Between.rests c.args.between.now c.args.self.now c.args.self.now (as_it_was _),
  fresh_cause _ _ c.args.self.now.failures c.fault.result c.refusal_of.result c.fault.ensures.no_fewer
      c.fault.ensures.device c.fault.ensures.counts c.refusal_of.ensures.device c.refusal_of.ensures.told,
)

pub returns-in-Err-clause-spares : goal.returns-in-Err-clause-spares
returns-in-Err-clause-spares g c unfit =
    let named = c.refusal_of.ensures.named in absurd (fault_is_fit c.refusal_of.result named.1 named.2 unfit)

pub returns-in-Err-clause-copies : goal.returns-in-Err-clause-copies
returns-in-Err-clause-copies g c clean good w x sw sx =
    let old = state g.F.Store c.args.fresh.now.conn in
    let mid = state g.F.Store c.is_blank.new.conn in
    let named = c.refusal_of.ensures.named in
    unwritten_at old mid w x sw.0.1 sx c.is_blank.ensures.spares c.refusal_of.result good
    (fault_tells (Unit {0}) x c.refusal_of.result named.0 named.1 named.2)

-- ---- all was copied

pub returns-in-Ok-true-write_between-clause-went : goal.returns-in-Ok-true-write_between-clause-went
returns-in-Ok-true-write_between-clause-went g c =
    (c.write_between.new.self.failures, c.write_between.ensures.went, no_cause _ _ (Ok tt) (λ is. cc))

pub returns-in-Ok-true-write_between-clause-honest_too : goal.returns-in-Ok-true-write_between-clause-honest_too
returns-in-Ok-true-write_between-clause-honest_too g c good =
    let old = state g.F.Store c.args.fresh.now.conn in
    let mid = state g.F.Store c.is_blank.new.conn in
    was_clean old mid c.is_blank.ensures.spares.clean
    (was_clean mid (state g.F.Store c.write_between.new.fresh) c.write_between.ensures.clean good)

pub returns-in-Ok-true-write_between-clause-spares : goal.returns-in-Ok-true-write_between-clause-spares
returns-in-Ok-true-write_between-clause-spares g c unfit =
    absurd (done_is_fit unfit)

pub returns-in-Ok-true-write_between-clause-copies : goal.returns-in-Ok-true-write_between-clause-copies
returns-in-Ok-true-write_between-clause-copies g c clean good w x sw sx =
    let old = state g.F.Store c.args.fresh.now.conn in
    let mid = state g.F.Store c.is_blank.new.conn in
    let end = state g.F.Store c.write_between.new.fresh in
    let blank = c.in-Ok-true.ensures.answer (was_clean mid end c.write_between.ensures.clean good) x sx.0 sx.1 in
    let opened = λ (late : HasCleanDisk mid). (c.in-Ok-true.ensures.answer late x sx.0 sx.1).0 in
    let change = c.in-Ok-true-write_between.ensures.changes clean opened w sw in
    written_at old mid w x sw.0.1 sx c.is_blank.ensures.spares end (Ok tt) good
    (blank.1.0 c.in-Ok-true.field-0-test) c.write_between.ensures.clean
    (subst (λ b. ChangesAt mid end b only_common w) c.in-Ok-true-write_between.field-0-test change)
    (tt, blank.1.0 c.in-Ok-true.field-0-test)

-- ---- a turn ended the copy

pub returns-in-Ok-false-write_between-clause-went : goal.returns-in-Ok-false-write_between-clause-went
returns-in-Ok-false-write_between-clause-went g c =
    (c.write_between.new.self.failures, c.write_between.ensures.went, no_cause _ _ (Err refusal.Memory) (λ is. cc))

pub returns-in-Ok-false-write_between-clause-honest_too : goal.returns-in-Ok-false-write_between-clause-honest_too
returns-in-Ok-false-write_between-clause-honest_too g c good =
    let old = state g.F.Store c.args.fresh.now.conn in
    let mid = state g.F.Store c.is_blank.new.conn in
    was_clean old mid c.is_blank.ensures.spares.clean
    (was_clean mid (state g.F.Store c.write_between.new.fresh) c.write_between.ensures.clean good)

pub returns-in-Ok-false-write_between-clause-spares : goal.returns-in-Ok-false-write_between-clause-spares
returns-in-Ok-false-write_between-clause-spares g c unfit =
    absurd (fault_is_fit refusal.Memory (λ is. cc) (λ is. cc) unfit)

pub returns-in-Ok-false-write_between-clause-copies : goal.returns-in-Ok-false-write_between-clause-copies
returns-in-Ok-false-write_between-clause-copies g c clean good w x sw sx =
    let old = state g.F.Store c.args.fresh.now.conn in
    let mid = state g.F.Store c.is_blank.new.conn in
    let end = state g.F.Store c.write_between.new.fresh in
    let blank = c.in-Ok-true.ensures.answer (was_clean mid end c.write_between.ensures.clean good) x sx.0 sx.1 in
    let opened = λ (late : HasCleanDisk mid). (c.in-Ok-true.ensures.answer late x sx.0 sx.1).0 in
    let change = c.in-Ok-false-write_between.ensures.changes clean opened w sw in
    written_at old mid w x sw.0.1 sx c.is_blank.ensures.spares end (Err refusal.Memory) good
    (blank.1.0 c.in-Ok-true.field-0-test) c.write_between.ensures.clean
    (subst (λ b. ChangesAt mid end b only_common w) c.in-Ok-false-write_between.field-0-test change)
    tt

-- ---- the served store failed

pub returns-in-Err-Source-clause-went : goal.returns-in-Err-Source-clause-went
returns-in-Err-Source-clause-went g c = (
  c.write_between.new.self.failures,
  c.write_between.ensures.went,
  source_cause _ _ _ c.fault-in-Err-Source.result c.refusal_of-in-Err-Source.result
      c.fault-in-Err-Source.ensures.no_fewer c.fault-in-Err-Source.ensures.device
      c.fault-in-Err-Source.ensures.counts c.refusal_of-in-Err-Source.ensures.device
      c.refusal_of-in-Err-Source.ensures.told,
)

pub returns-in-Err-Source-clause-honest_too : goal.returns-in-Err-Source-clause-honest_too
returns-in-Err-Source-clause-honest_too g c good =
    let old = state g.F.Store c.args.fresh.now.conn in
    let mid = state g.F.Store c.is_blank.new.conn in
    was_clean old mid c.is_blank.ensures.spares.clean
    (was_clean mid (state g.F.Store c.write_between.new.fresh) c.write_between.ensures.clean good)

pub returns-in-Err-Source-clause-spares : goal.returns-in-Err-Source-clause-spares
returns-in-Err-Source-clause-spares g c unfit =
    let named = c.refusal_of-in-Err-Source.ensures.named in
    absurd (fault_is_fit c.refusal_of-in-Err-Source.result named.1 named.2 unfit)

pub returns-in-Err-Source-clause-copies : goal.returns-in-Err-Source-clause-copies
returns-in-Err-Source-clause-copies g c clean good w x sw sx =
    let old = state g.F.Store c.args.fresh.now.conn in
    let mid = state g.F.Store c.is_blank.new.conn in
    let end = state g.F.Store c.write_between.new.fresh in
    let blank = c.in-Ok-true.ensures.answer (was_clean mid end c.write_between.ensures.clean good) x sx.0 sx.1 in
    let opened = λ (late : HasCleanDisk mid). (c.in-Ok-true.ensures.answer late x sx.0 sx.1).0 in
    let change = c.in-Err-Source.ensures.changes clean opened w sw in
    written_at old mid w x sw.0.1 sx c.is_blank.ensures.spares end (Err c.refusal_of-in-Err-Source.result) good
    (blank.1.0 c.in-Ok-true.field-0-test) c.write_between.ensures.clean change
    (let named = c.refusal_of-in-Err-Source.ensures.named in
    fault_tells (Unit {0}) x c.refusal_of-in-Err-Source.result named.0 named.1 named.2)

-- ---- the fresh store failed

pub returns-in-Err-Fresh-clause-went : goal.returns-in-Err-Fresh-clause-went
returns-in-Err-Fresh-clause-went g c = (
  c.write_between.new.self.failures,
  c.write_between.ensures.went,
  fresh_cause _ _ _ c.fault-in-Err-Fresh.result c.refusal_of-in-Err-Fresh.result
      c.fault-in-Err-Fresh.ensures.no_fewer c.fault-in-Err-Fresh.ensures.device
      c.fault-in-Err-Fresh.ensures.counts c.refusal_of-in-Err-Fresh.ensures.device
      c.refusal_of-in-Err-Fresh.ensures.told,
)

pub returns-in-Err-Fresh-clause-honest_too : goal.returns-in-Err-Fresh-clause-honest_too
returns-in-Err-Fresh-clause-honest_too g c good =
    let old = state g.F.Store c.args.fresh.now.conn in
    let mid = state g.F.Store c.is_blank.new.conn in
    was_clean old mid c.is_blank.ensures.spares.clean
    (was_clean mid (state g.F.Store c.write_between.new.fresh) c.write_between.ensures.clean good)

pub returns-in-Err-Fresh-clause-spares : goal.returns-in-Err-Fresh-clause-spares
returns-in-Err-Fresh-clause-spares g c unfit =
    let named = c.refusal_of-in-Err-Fresh.ensures.named in
    absurd (fault_is_fit c.refusal_of-in-Err-Fresh.result named.1 named.2 unfit)

pub returns-in-Err-Fresh-clause-copies : goal.returns-in-Err-Fresh-clause-copies
returns-in-Err-Fresh-clause-copies g c clean good w x sw sx =
    let old = state g.F.Store c.args.fresh.now.conn in
    let mid = state g.F.Store c.is_blank.new.conn in
    let end = state g.F.Store c.write_between.new.fresh in
    let blank = c.in-Ok-true.ensures.answer (was_clean mid end c.write_between.ensures.clean good) x sx.0 sx.1 in
    let opened = λ (late : HasCleanDisk mid). (c.in-Ok-true.ensures.answer late x sx.0 sx.1).0 in
    let change = c.in-Err-Fresh.ensures.changes clean opened w sw in
    written_at old mid w x sw.0.1 sx c.is_blank.ensures.spares end (Err c.refusal_of-in-Err-Fresh.result) good
    (blank.1.0 c.in-Ok-true.field-0-test) c.write_between.ensures.clean change
    (let named = c.refusal_of-in-Err-Fresh.ensures.named in
    fault_tells (Unit {0}) x c.refusal_of-in-Err-Fresh.result named.0 named.1 named.2)
