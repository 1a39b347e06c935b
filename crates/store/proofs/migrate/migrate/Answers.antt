use Rattle.std.proofs.Common.{Bool, Result, Ok, Err, true≢false, refl, sym, subst, ◌∙◌, rules}
use Rattle.sqlite.specs.Held.{state}
use Rattle.older_rows.specs.Causes.{HasReasonIf}
use Rattle.older_rows.specs.Filled.{Migrates}
use Rattle.older_rows.specs.Visits.{is_done}
use Rattle.statements.specs.declared.extract_rows.CopyError.{CopyError}
use Rattle.store_files.specs.declared.refusal.StoreRefusal.TheVariants.{BadSchema, NotEmpty}
use Rattle.store.proofs.MigratedLemmas.{unwritten, written, done_not_full, error_not_full, fault_tells, opening_tells}
use Rattle.store.proofs.MigratedLemmas.{opening_some, older_device}
use Rattle.store.proofs.migrate.migrate.Goals as goal

pub returns-in-Ok-false-clause-migrates : goal.returns-in-Ok-false-clause-migrates
returns-in-Ok-false-clause-migrates g c =
    unwritten (state g.S.Store c.args.old.now) (state g.F.Store c.args.fresh.now.conn)
    (state g.F.Store c.is_blank.new.conn) c.args.fresh.now.kept c.new.result _ _ (Err NotEmpty) c.new.ensures refl
    c.is_blank.ensures.spares
    (λ good x stands same. true≢false
    (sym ((c.in-Ok-false.ensures.answer good x stands.0 stands.1).1.1 same) ∙ c.in-Ok-false.field-0-test))

pub returns-in-Err-clause-migrates : goal.returns-in-Err-clause-migrates
returns-in-Err-clause-migrates g c =
    let named = c.refusal_of.ensures.named in
    unwritten (state g.S.Store c.args.old.now) (state g.F.Store c.args.fresh.now.conn)
    (state g.F.Store c.is_blank.new.conn) c.args.fresh.now.kept c.new.result _ _ (Err c.refusal_of.result) c.new.ensures refl
    c.is_blank.ensures.spares
    (λ good x stands. fault_tells x _ named.0 named.1 named.2)

pub returns-in_default-clause-migrates : goal.returns-in_default-clause-migrates
returns-in_default-clause-migrates g c =
    unwritten (state g.S.Store c.args.old.now) (state g.F.Store c.args.fresh.now.conn)
    (state g.F.Store c.is_blank.new.conn) c.args.fresh.now.kept c.new.result _ _ (Err BadSchema) c.new.ensures refl
    c.is_blank.ensures.spares
    (λ good x stands. (c.in-Ok-true.ensures.answer good x stands.0 stands.1).1.0 c.in-Ok-true.field-0-test)

pub returns-in-Ok-true-write_world-clause-migrates : goal.returns-in-Ok-true-write_world-clause-migrates
returns-in-Ok-true-write_world-clause-migrates g c =
    written _ _ _ _ _ _ c.args.fresh.now.kept c.new.result _ _ (Ok tt) c.new.ensures (search rules)
    c.is_blank.ensures.spares
    (λ good x stands. let is = c.in-Ok-true.ensures.answer good x stands.0 stands.1 in
    (is.0, is.1.0 c.in-Ok-true.field-0-test))
    (subst (Migrates _ _ _ _ _) c.in-Ok-true-write_world.field-0-test c.in-Ok-true-write_world.ensures.migrates)
    done_not_full
    (λ x is. is)

pub returns-in-Ok-false-write_world-clause-migrates : goal.returns-in-Ok-false-write_world-clause-migrates
returns-in-Ok-false-write_world-clause-migrates g c =
    written _ _ _ _ _ _ c.args.fresh.now.kept c.new.result _ _ (Err BadSchema) c.new.ensures (search rules)
    c.is_blank.ensures.spares
    (λ good x stands. let is = c.in-Ok-true.ensures.answer good x stands.0 stands.1 in
    (is.0, is.1.0 c.in-Ok-true.field-0-test))
    (subst (Migrates _ _ _ _ _) c.in-Ok-false-write_world.field-0-test c.in-Ok-false-write_world.ensures.migrates)
    (error_not_full _ (λ same. cc))
    (λ x is. is)

pub returns-in-Err-Source-clause-migrates : goal.returns-in-Err-Source-clause-migrates
returns-in-Err-Source-clause-migrates g c =
    let says = c.open_refusal.ensures in
    written _ _ _ _ _ _ c.args.fresh.now.kept c.new.result _ _ (Err c.open_refusal.result) c.new.ensures (search rules)
    c.is_blank.ensures.spares
    (λ good x stands. let is = c.in-Ok-true.ensures.answer good x stands.0 stands.1 in
    (is.0, is.1.0 c.in-Ok-true.field-0-test))
    c.in-Err-Source.ensures.migrates
    (error_not_full _ (opening_some _ says.opening))
    (λ x _. opening_tells x _ says.opening says.named)

pub returns-in-Err-Fresh-SqliteFailure-ConstraintViolation-clause-migrates : goal.returns-in-Err-Fresh-SqliteFailure-ConstraintViolation-clause-migrates
returns-in-Err-Fresh-SqliteFailure-ConstraintViolation-clause-migrates g c =
    written _ _ _ _ _ _ c.args.fresh.now.kept c.new.result _ _ (Err BadSchema) c.new.ensures (search rules)
    c.is_blank.ensures.spares
    (λ good x stands. let is = c.in-Ok-true.ensures.answer good x stands.0 stands.1 in
    (is.0, is.1.0 c.in-Ok-true.field-0-test))
    c.in-Err-Fresh-SqliteFailure-ConstraintViolation.ensures.migrates
    (error_not_full _ (λ same. cc))
    (λ x is. is)

pub returns-in-Err-Fresh-clause-migrates : goal.returns-in-Err-Fresh-clause-migrates
returns-in-Err-Fresh-clause-migrates g c =
    let named = c.refusal_of-in-Err-Fresh.ensures.named in
    written c.in-Some.format (state g.S.Store c.args.old.now) (state g.S.Store c.write_world.new.source)
    (state g.F.Store c.args.fresh.now.conn) (state g.F.Store c.is_blank.new.conn)
    (state g.F.Store c.write_world.new.fresh) c.args.fresh.now.kept c.new.result _ _ (Err c.refusal_of-in-Err-Fresh.result) c.new.ensures (search rules)
    c.is_blank.ensures.spares
    (λ good x stands. let is = c.in-Ok-true.ensures.answer good x stands.0 stands.1 in
    (is.0, is.1.0 c.in-Ok-true.field-0-test))
    (subst (λ (r : Result Bool CopyError). Migrates c.in-Some.format (state g.S.Store c.args.old.now)
    (state g.S.Store c.write_world.new.source) (state g.F.Store c.is_blank.new.conn)
    (state g.F.Store c.write_world.new.fresh) (is_done r)) c.in-Err-Fresh.is c.write_world.ensures.migrates)
    (error_not_full _ named.1)
    (λ x _. fault_tells x _ named.0 named.1 named.2)

pub returns-in-Err-Source-clause-cause : goal.returns-in-Err-Source-clause-cause
returns-in-Err-Source-clause-cause g c =
    let s = state g.S.Store c.args.old.now in
    let t = state g.S.Store c.write_world.new.source in
    older_device c.in-Some.format s t c.in-Err-Source.error c.open_refusal.result _ c.open_refusal.ensures.memory
    (λ clean. subst (HasReasonIf c.in-Some.format s t) c.in-Err-Source.field-0-is
    (c.in-Err-Source.ensures.cause clean (search rules)))
