-- What a publish handed in is served for good once it was accepted: the law of runs, in bytes.
use Rattle.std.proofs.Common.{◌≡◌, ◌⊎◌, ◌≤◌, ℕ, [], ◌∷◌, refl, ◌∙◌, ap, subst, inl, inr, arith}
use Rattle.machine.specs.declared.request.Request.TheVariants.{Get, Put}
use Rattle.machine.specs.declared.request.Event.TheVariants.{Requested}
use Rattle.machine.specs.declared.reply.Answer.{Answer}
use Rattle.machine.specs.declared.reply.Answer.TheVariants.{Replied, Failed}
use Rattle.machine.specs.declared.reply.Decision.{Decision}
use Rattle.machine.specs.declared.reply.Decision.TheVariants as decision
use Rattle.machine.specs.declared.reply.ContentRefusal.TheVariants as refusal
use Rattle.machine.specs.declared.reply.Reply.TheVariants as reply
use Rattle.machine.specs.Immutability.{IsAccepted}
use Rattle.machine.specs.Machine.{Run, put_decision}
use Rattle.machine.proofs.Served.{accepted_is_served}
use Rattle.engine.specs.Request as spec
use Rattle.engine.specs.Exchange.{event_of, answer_of}
use Rattle.engine.specs.Reply.{page_for, page_status, fixed_of, bytes_of, text_of}
use Rattle.wire.specs.Reply.{fixed_status}
use Rattle.engine.specs.Accepted.{AcceptedIsWritten}
use Rattle.engine.specs.Headline.{unavailable}
use Rattle.engine.proofs.HeadlineLemmas.{failed_text}

abbrev IsGood : ℕ → Type 0
IsGood n = (n ≡ 201) ⊎ (n ≡ 200)

above : (n : ℕ) → 202 ≤ n → ¬ IsGood n
above n more (inl is) = omega arith
above n more (inr is) = omega arith

-- a decision with status 201 or 200 accepts the publish
accepted : (d : Decision) → IsGood (fixed_status (fixed_of d)) → IsAccepted d
accepted decision.Published good = tt
accepted decision.Same good = tt
accepted decision.NotFound good = absurd (above 404 (omega arith) good)
accepted decision.Forbidden good = absurd (above 403 (omega arith) good)
accepted decision.BadLength good = absurd (above 400 (omega arith) good)
accepted decision.TooLarge good = absurd (above 413 (omega arith) good)
accepted (decision.Refused refusal.MajorMismatch) good = absurd (above 422 (omega arith) good)
accepted (decision.Refused refusal.BadTime) good = absurd (above 422 (omega arith) good)
accepted (decision.Refused refusal.TimeMismatch) good = absurd (above 422 (omega arith) good)
accepted (decision.Refused (refusal.BadGoMod line)) good = absurd (above 422 (omega arith) good)
accepted (decision.Refused refusal.ModulePath) good = absurd (above 422 (omega arith) good)
accepted (decision.Refused refusal.IncompatibleGoMod) good = absurd (above 422 (omega arith) good)
accepted decision.Conflict good = absurd (above 409 (omega arith) good)
accepted decision.Full good = absurd (above 507 (omega arith) good)

-- a GET after an accepted publish gets what the publish handed in, or the 503
pub accepted_is_written : AcceptedIsWritten
accepted_is_written old mid new s k later p b resource r put get events answers is own asks body good run later_own
    targets back again =
    by_answer (answer_of put) refl
  where
    asks_again : spec.request_of get.message ≡ Get later (spec.query_of resource)
    asks_again = ap (spec.request_at get.message) targets

    after : Run mid (Requested (Get later (spec.query_of resource)) ∷ []) (answer_of get ∷ []) new
    after = subst (λ e. Run mid (e ∷ []) (answer_of get ∷ []) new) (ap Requested asks_again) again

    -- the PUT was not answered by a fault, because a 503 is neither 201 nor 200, so its status is that of its decision
    by_answer : (a : Answer) → answer_of put ≡ a
        → (text_of get ≡ bytes_of get.message (Replied r)) ⊎ (text_of get ≡ unavailable)
    by_answer (Failed fault) came =
        absurd (above 503 (omega arith) (subst IsGood (ap (λ a. page_status (page_for put.message a)) came) good))
    by_answer (Replied heard) came =
        let before : Run old (Requested (Put k p) ∷ events) (Replied heard ∷ answers) mid =
        subst (λ e. Run old (e ∷ events) (Replied heard ∷ answers) mid) (ap Requested asks)
        (subst (λ a. Run old (event_of put ∷ events) (a ∷ answers) mid) came run) in
        let d : Decision = put_decision old k p in
        let status : IsGood (fixed_status (fixed_of d)) =
        subst IsGood (ap (λ a. page_status (page_for put.message a)) (came ∙ ap Replied before.0)) good in
        let decided : Run old (Requested (Put k p) ∷ events) (Replied (reply.Decided d) ∷ answers) mid =
        subst (λ x. Run old (Requested (Put k p) ∷ events) (Replied x ∷ answers) mid) before.0 before in
        elim (accepted_is_served old mid new s k later p b d (spec.query_of resource) r events answers (answer_of get)
        is own body (accepted d status) decided later_own back after) [
          | inl same ↦ inl (ap (bytes_of get.message) same)
          | inr failed ↦ inr (failed_text get.message (answer_of get) failed)
        ]
