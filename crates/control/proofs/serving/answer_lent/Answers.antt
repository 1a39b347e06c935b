use Rattle.std.proofs.Common.{◌∙◌, subst, sym}
use Rattle.socket.specs.Connections.{AnswersOne, both}
use Rattle.control.specs.Counted.{CountsPublishes, HoldsBack}
use Rattle.control.proofs.PeerLemmas.{answers_lent}
use Rattle.socket.proofs.OneLemmas.{answered_one}
use Rattle.control.proofs.serving.answer_lent.Goals as goal

pub returns-clause-answers : goal.returns-clause-answers
returns-clause-answers g c =
    let p = g.P.Peer in
    let shown = g.S.Shelves.shown in
    let m = g.M.Arrival in
    let heard = both p.came p.reads in
    let written = both p.written p.writes in
    let lent = answers_lent heard written shown _ _ _ m.was m.held m.before _ _ _ _ _ _ _ c.new-lent.ensures.value
    (c.requires.before ∙ sym c.new-lent.ensures.counts) c.requires.was c.requires.stood
    (answered_one heard written _ _ _ _ _ c.answer-after.ensures.serves c.answer-after.ensures.cause
    c.answer-after.ensures.flushed) in
    lent.0

pub returns-clause-counts : goal.returns-clause-counts
returns-clause-counts g c =
    let p = g.P.Peer in
    let shown = g.S.Shelves.shown in
    let m = g.M.Arrival in
    let heard = both p.came p.reads in
    let written = both p.written p.writes in
    let lent = answers_lent heard written shown _ _ _ m.was m.held m.before _ _ _ _ _ _ _ c.new-lent.ensures.value
    (c.requires.before ∙ sym c.new-lent.ensures.counts) c.requires.was c.requires.stood
    (answered_one heard written _ _ _ _ _ c.answer-after.ensures.serves c.answer-after.ensures.cause
    c.answer-after.ensures.flushed) in
    subst (λ t. CountsPublishes (shown c.args.shelves.now) (shown c.answer-after.new.shelves.inner.now) t
    c.answer-after.new.shelves.traffic c.answer-after.new.shelves.notice) c.requires.before lent.1.0

pub returns-clause-held : goal.returns-clause-held
returns-clause-held g c =
    let p = g.P.Peer in
    let shown = g.S.Shelves.shown in
    let m = g.M.Arrival in
    let heard = both p.came p.reads in
    let written = both p.written p.writes in
    let lent = answers_lent heard written shown _ _ _ m.was m.held m.before _ _ _ _ _ _ _ c.new-lent.ensures.value
    (c.requires.before ∙ sym c.new-lent.ensures.counts) c.requires.was c.requires.stood
    (answered_one heard written _ _ _ _ _ c.answer-after.ensures.serves c.answer-after.ensures.cause
    c.answer-after.ensures.flushed) in
    subst (λ h. HoldsBack h (shown c.args.shelves.now) (shown c.answer-after.new.shelves.inner.now)) c.requires.held
    lent.1.1
