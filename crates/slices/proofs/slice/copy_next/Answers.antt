use Rattle.std.proofs.Common.{false, sym, subst, IfSome}
use Rattle.sqlite.specs.Effect.{Database}
use Rattle.sqlite.specs.Held.{state}
use Rattle.tables.proofs.FailureLemmas.{was_clean}
use Rattle.statements.proofs.CallLemmas.{spares_then}
use Rattle.statements.proofs.ExtractLemmas.{spares_itself}
use Rattle.statements.proofs.GoingLemmas.{goes_on_itself, goes_on_or_ends}
use Rattle.slices.specs.Slices.{IsVersionIn}
use Rattle.slices.proofs.slice.copy_next.Goals as goal

pub returns-in_default-clause-reads : goal.returns-in_default-clause-reads
returns-in_default-clause-reads g c = spares_itself (state g.S.Store c.args.source.now)

pub returns-in_default-clause-goes_on : goal.returns-in_default-clause-goes_on
returns-in_default-clause-goes_on g c =
    let s = state g.F.Store c.args.tx.now.conn.now in
    goes_on_or_ends s s false (goes_on_itself s)

pub returns-in-Some-2-clause-reads : goal.returns-in-Some-2-clause-reads
returns-in-Some-2-clause-reads g c = spares_then _ _ _ c.find_version.ensures.spares c.copy_version.ensures.reads

pub returns-in-Some-2-clause-open : goal.returns-in-Some-2-clause-open
returns-in-Some-2-clause-open g c clean w stands =
    let mid = state g.S.Store c.find_version.new.conn in
    let end = state g.S.Store c.copy_version.new.source in
    let early = was_clean mid end c.copy_version.ensures.reads.clean clean in
    c.copy_version.ensures.open clean w (c.find_version.ensures.spares.stays w stands)
    (c.in_ok-version.ensures.answer early w stands).0

pub returns-in-Some-2-clause-copies : goal.returns-in-Some-2-clause-copies
returns-in-Some-2-clause-copies g c clean good w later stands since holds =
    let old = state g.S.Store c.args.source.now in
    let mid = state g.S.Store c.find_version.new.conn in
    let end = state g.S.Store c.copy_version.new.source in
    let v = c.in-Some-2.version in
    let early = was_clean mid end c.copy_version.ensures.reads.clean clean in
    let found = subst (λ o. IfSome o (IsVersionIn old.now.trees later)) c.in-Some-2.is
    (c.in_ok-version.ensures.answer early later stands).1 in
    let same = c.in_ok-version.ensures.same early later stands in
    let is = subst (λ (d : Database). IsVersionIn d.trees later v) (sym same) found in
    c.copy_version.ensures.copies clean good w later (c.find_version.ensures.spares.stays later stands) since is holds

pub returns-in-None-clause-goes_on : goal.returns-in-None-clause-goes_on
returns-in-None-clause-goes_on g c =
    let s = state g.F.Store c.args.tx.now.conn.now in
    goes_on_or_ends s s false (goes_on_itself s)
