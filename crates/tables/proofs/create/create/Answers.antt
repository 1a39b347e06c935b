use Rattle.std.proofs.Common.{◌≡◌, true, false, Err, OnErr, sym, subst, ◌∙◌, rules, IsTrue}
use Rattle.sqlite.specs.Held.{state}
use Rattle.sqlite.specs.State.{HasCleanDisk}
use Rattle.tables.proofs.FailureLemmas.{was_clean, undone_now}
use Rattle.tables.proofs.create.create.Goals as goal

pub returns-in_err-commit-clause-unmade : goal.returns-in_err-commit-clause-unmade
returns-in_err-commit-clause-unmade g c clean shown =
    let h = c.args.conn.now in
    let last = c.create_tables.new.tx.conn.now in
    let end = c.commit.new.self.0 in
    let same : end ≡ c.conn-2-1.given.0 = search rules in
    let late : HasCleanDisk (state g.S.Store end) = subst (λ x. HasCleanDisk (state g.S.Store x)) (sym same) clean in
    let open_end : IsTrue (state g.S.Store end).is_open =
    subst (λ x. IsTrue (state g.S.Store x).is_open) (sym same) shown in
    let begun = c.transaction-tx.ensures.begun in
    let keeps = rw begun at c.create_tables.ensures.commit in
    let inside = rw begun at c.in_ok-create_tables.ensures.inside in
    let mid = was_clean (state g.S.Store last) (state g.S.Store end) c.commit.ensures.survives.clean late in
    let undone = undone_now (state g.S.Store (record h { in_transaction = true })) (state g.S.Store last)
    (state g.S.Store end) c.in_err-commit.field-0.0 (keeps mid) (inside mid) (c.in_err-commit.ensures.err late)
    open_end in
    let now : (state g.S.Store end).now ≡ (state g.S.Store h).now = undone.1
    ∙ sym (c.is_autocommit.ensures.settled c.if-not-is_autocommit.false undone.0) in
    elim c.from_residual-in_err-commit.result as
    (λ r. OnErr r ((state g.S.Store c.conn-2-1.given.0).now ≡ (state g.S.Store h).now)) [
      | Rattle.std.proofs.Common.Ok u ↦ tt
      | Err e ↦ subst (λ x. (state g.S.Store x).now ≡ (state g.S.Store h).now) same now
    ]
