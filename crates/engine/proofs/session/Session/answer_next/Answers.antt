use Rattle.std.proofs.Common.{◌≡◌, refl, ap, ◌∙◌, subst}
use Rattle.std.proofs.lemmas.Result.{err_from_is_err_and}
use Rattle.framing.specs.Framing.{view}
use Rattle.engine.specs.Request.{request_of, sum_of, sum_by}
use Rattle.engine.specs.Exchange.{Exchange, Unserved, answer_to}
use Rattle.engine.specs.Reply.{answer_page, IsOutcome}
use Rattle.engine.proofs.RequestLemmas.{sum_asked}
use Rattle.engine.proofs.CausesLemmas.{caused_unread, caused_unwritten}
use Rattle.engine.proofs.SessionLemmas.{handled_message, handled_page, handled_end, handled_unread}
use Rattle.engine.proofs.StoreLemmas.{through_asked, through_unasked}
use Rattle.engine.proofs.session.Session.answer_next.Goals as goal

pub returns-in_err-message-clause-answers : goal.returns-in_err-message-clause-answers
returns-in_err-message-clause-answers g c =
    let returned = err_from_is_err_and c.from_residual.result c.from_residual.ensures.1 in
    rw (returned.1, returned.2)
    (handled_unread _ _ _ _ _ _ c.args.self.now.reads c.next_message.new.reads _ _ c.in_err-message.ensures.comes
    refl)

pub returns-in_default-clause-answers : goal.returns-in_default-clause-answers
returns-in_default-clause-answers g c =
    let x : Exchange = record { message = view c.in-Message.message; outcome = Unserved } in
    handled_message _ _ _ _ _ _ _ _ _ _ c.in-Message.message x _ refl
    (rw c.in-Message.is at c.in_ok-message.ensures.comes)
    (through_unasked _ _ (g.met.S.Shelves.wider c.args.shelves.now)) c.answer_with.ensures.bytes
    c.answer_with.ensures.handled

pub returns-in-Ok-clause-answers : goal.returns-in-Ok-clause-answers
returns-in-Ok-clause-answers g c =
    let m = view c.in-Message.message in
    let asked = c.in-Ok.asked in
    let request : asked.request ≡ request_of m = ap (λ a. a.request) c.in-Ok.ensures in
    let sum : sum_by asked ≡ sum_of m = ap sum_by c.in-Ok.ensures ∙ sum_asked m in
    let (outcome, is, shown) = c.page_of_answer-page.ensures in
    let x : Exchange = record { message = m; outcome = outcome } in
    let is_one = subst (λ at. IsOutcome at c.step-answer.result outcome) sum is in
    handled_page _ _ _ _ _ _ _ _ _ _ c.in-Message.message x c.page_of_answer-page.result _ refl
    (rw c.in-Message.is at c.in_ok-message.ensures.comes)
    (through_asked _ _ m asked.request request c.step-answer.result outcome is_one c.step-answer.ensures.does)
    (shown ∙ ap (λ at. answer_page at (answer_to outcome)) sum) c.answer_with-in-Message.ensures.bytes
    c.answer_with-in-Message.ensures.handled

pub returns-in-End-clause-answers : goal.returns-in-End-clause-answers
returns-in-End-clause-answers g c = handled_end
    _ _ _ _ _ _ c.args.self.now.reads c.next_message.new.reads _ c.in-End.closing _
    (rw c.in-End.is at c.in_ok-message.ensures.comes) c.close_by.ensures.bytes c.close_by.ensures.handled

pub returns-in_err-message-clause-cause : goal.returns-in_err-message-clause-cause
returns-in_err-message-clause-cause g c =
    let returned = err_from_is_err_and c.from_residual.result c.from_residual.ensures.1 in
    rw (returned.1, returned.2)
    (caused_unread _ (g.R.Hear.reads c.args.reader.now) (g.R.Hear.reads c.next_message.new.reader)
    (g.W.Tell.writes c.args.writer.now) (g.W.Tell.writes c.args.writer.now) _ c.in_err-message.ensures.comes.0
    c.in_err-message.ensures.cause)

pub returns-in_default-clause-cause : goal.returns-in_default-clause-cause
returns-in_default-clause-cause g c =
    caused_unwritten
    _ (g.R.Hear.reads c.args.reader.now) (g.R.Hear.reads c.next_message.new.reader) (g.W.Tell.writes c.args.writer.now)
    (g.W.Tell.writes c.answer_with.new.writer)
    _ _ _ _ c.answer_with.ensures.bytes c.answer_with.ensures.fails

pub returns-in-Ok-clause-cause : goal.returns-in-Ok-clause-cause
returns-in-Ok-clause-cause g c =
    caused_unwritten
    _ (g.R.Hear.reads c.args.reader.now) (g.R.Hear.reads c.next_message.new.reader) (g.W.Tell.writes c.args.writer.now)
    (g.W.Tell.writes c.answer_with-in-Message.new.writer)
    _ _ _ _ c.answer_with-in-Message.ensures.bytes c.answer_with-in-Message.ensures.fails

pub returns-in-End-clause-cause : goal.returns-in-End-clause-cause
returns-in-End-clause-cause g c = caused_unwritten
    _ (g.R.Hear.reads c.args.reader.now) (g.R.Hear.reads c.next_message.new.reader) (g.W.Tell.writes c.args.writer.now)
    (g.W.Tell.writes c.close_by.new.writer)
    _ _ _ _ c.close_by.ensures.bytes c.close_by.ensures.fails
