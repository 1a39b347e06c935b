use Rattle.std.proofs.Common.{◌≡◌, ◌∙◌, ap, refl, rules, subst, sym}
use Rattle.std.specs.Prelude.{IfOk}
use Rattle.socket.specs.Connections.{both}
use Rattle.interleave.specs.Noted.{IsNoted, with_said}
use Rattle.control.specs.Copying.{IsBusy, IsOnlyRead, Making}
use Rattle.control.specs.Finds.{WritesAndDoes}
use Rattle.control.specs.Health.{IsPinged}
use Rattle.control.specs.Pinging.{TellsHowFar}
use Rattle.control.specs.Reserve.{lent}
use Rattle.control.specs.Traces.{UsesAndTells}
use Rattle.control.proofs.FarLemmas.{obeys_meanwhile, tells_how_far}
use Rattle.control.proofs.ServeLemmas.{obeyed_one, obeyed_told, obeyed_trace}
use Rattle.control.proofs.TraceLemmas.{order_traced}
use Rattle.control.proofs.OrderedLemmas.{obeys_unsaid, unsaid_audience}
use Rattle.control.proofs.UseLemmas.{used_behind, used_one, used_so}
use Rattle.control.proofs.serving.Server.obey_meanwhile.Goals as goal

pub returns-clause-obeys : goal.returns-clause-obeys
returns-clause-obeys g c =
    let o = g.O.Operator in
    let far = c.args.self.now.how_far in
    let given = c.obey_with-after.ensures in
    let errors = both g.E.Write.contents g.E.Tell.writes in
    let before = errors c.args.self.now.errors.now in
    let after = errors c.tell.new.self.errors.now in
    let obeyed = obeyed_one (both o.came o.reads) (both o.written o.writes) _ _ _ _ _ _ _ _ c.is_stopping.result _ _
    given.obeys given.cause c.is_stopping.ensures in
    let shown = g.S.Shelves.shown in
    let w = c.obey_with-after.new.watched in
    let old = c.args.watched.now.inner.now.inner.now in
    let new = w.inner.now.inner.now in
    let told = tells_how_far far (g.K.Copies.figured new) w.traffic w.copied
    (IsPinged c.count_operator.new.self.tally (shown old).failures (shown new).failures
    (g.K.Copies.counted old new)) c.obey_with-after.result.0.told given.figures in
    let deeds = g.V.KeepsRoom.deeds in
    let name = c.args.self.now.reserve.ghost_name in
    let room = c.args.self.now.room in
    let used = used_one _ _ _ _ _ _ _ _ _ _ _ _ (lent deeds c.obey_with-after.result.1.reserve room) obeyed
    (λ heard rest. used_so _ _ _ _ heard rest.0 refl rest.1)
    (λ making done. (ap (λ b. lent deeds b.reserve room) done.0, done.2)) in
    let ends : c.self-1.given.0 ≡ c.obey_with-after.result.1.reserve.now = c.self-1.given.1 (sym given.same) in
    let told_so = obeyed_trace (both o.came o.reads) (both o.written o.writes) _ _ _ _ _ _ _ _ _ _ _ _
    given.obeys given.cause c.is_stopping.ensures before after _ _ c.note_told-noted.ensures
    (rw ends at c.tell.ensures.tells) in
    let traces = order_traced obeyed.audience.heard obeyed.audience.told before after _ _ _ (used_behind _ name _ _ used)
    told_so in
    let m = g.M.Moment in
    let was = c.args.watched.now.inner.now in
    let now = w.inner.now in
    let still : Making → Type 0 = λ making.
    IsOnlyRead (with_said (shown was.inner.now) (IsNoted was.lost m.was m.before was.news))
    (with_said (shown now.inner.now) (IsNoted now.lost m.was m.before now.news)) × IsBusy making in
    let same = unsaid_audience _ _ _ _ _ _ still _ _ _ _ _ (λ making done. (done.1, done.2)) obeyed in
    obeys_meanwhile _ _ _ _ _ far _ _ _ _ _ _ _ _ (before, c.args.self.now.faults) (after, c.tell.new.self.faults) _ _ _ _
    (obeys_unsaid _ _ _ _ _ _ still _ _ _ _ _ (λ making done. (done.1, done.2)) obeyed)
    (subst (λ r. IfOk r (TellsHowFar far))
    (sym (ap (λ x. x.told) same ∙ obeyed_told _ _ _ _ _ _ _ _ _ _ _ _ _ _ _ _)) told)
    (subst (λ x. WritesAndDoes (UsesAndTells x.heard x.told) before after
    (lent deeds c.args.self.now.reserve room) (lent deeds c.tell.new.self.reserve c.tell.new.self.room)) (sym same) traces)
    c.tell.ensures.faults
    c.count_operator.ensures.tally (rw c.tell.ensures.same at c.end_operator.ensures)
    (rw c.tell.ensures.progress (c.end_if.ensures.tally ∙ c.count_operator.ensures.tally))
    (rw c.tell.ensures.progress (c.end_if.ensures.left ∙ c.count_operator.ensures.left))
    (rw c.tell.ensures.progress (c.end_if.ensures.taken ∙ c.count_operator.ensures.taken))
    (rw (c.tell.ensures.progress, c.end_if.ensures.stops, c.count_operator.ensures.stops) refl)
