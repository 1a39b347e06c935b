use Rattle.std.proofs.Common.{sym, subst}
use Rattle.sqlite.specs.Held.{state}
use Rattle.world.specs.declared.entry.Entry.{Entry}
use Rattle.world.specs.World.{place, with_entry}
use Rattle.modver.specs.SemanticVersion.{version_text}
use Rattle.statements.specs.Calls.{ChangesAt}
use Rattle.tables.proofs.FailureLemmas.{was_clean}
use Rattle.statements.proofs.ChangeLemmas.{spared, spares_at, not_ok}
use Rattle.statements.proofs.ExtractLemmas.{spares_itself}
use Rattle.statements.proofs.entries.add_entry.Goals as goal

pub returns-in_err-keyed-clause-changes : goal.returns-in_err-keyed-clause-changes
returns-in_err-keyed-clause-changes g c clean w stands unused =
    let old = state g.S.Store c.args.conn.now in
    let e : Entry = c.args.entry.now in
    let next = with_entry w (place c.args.shelf.now c.args.path.now (version_text c.args.version.now)) e in
    subst (λ b. ChangesAt old old b w next) (sym (not_ok c.from_residual.result c.from_residual.ensures.0))
    ((spared old old (λ _. next) (spares_itself old)).at w)

pub returns-in_err-number-clause-changes : goal.returns-in_err-number-clause-changes
returns-in_err-number-clause-changes g c clean w stands unused =
    let old = state g.S.Store c.args.conn.now in
    let new = state g.S.Store c.chosen_number.new.conn in
    let e : Entry = c.args.entry.now in
    let next = with_entry w (place c.args.shelf.now c.args.path.now (version_text c.args.version.now)) e in
    subst
    (λ b. ChangesAt old new b w next)
    (sym (not_ok c.from_residual-in_err-number.result c.from_residual-in_err-number.ensures.0))
    ((spared old new (λ _. next) c.chosen_number.ensures.spares).at w)

pub returns-clause-changes : goal.returns-clause-changes
returns-clause-changes g c clean w stands unused =
    let old = state g.S.Store c.args.conn.now in
    let mid = state g.S.Store c.chosen_number.new.conn in
    let new = state g.S.Store c.insert_entry.new.conn in
    let late = was_clean mid new c.insert_entry.ensures.clean clean in
    let h = c.in_ok-number.ensures.answer late w stands in
    let changes = rw c.in_ok-keyed.ensures at c.insert_entry.ensures.changes in
    spares_at old mid new _ w _ c.chosen_number.ensures.spares c.insert_entry.ensures.clean
    (changes (λ _. h.0) w unused)
