-- A caller gets what it would get in every world that is the same to it.
use Rattle.std.proofs.Common.{◌≡◌, ◌≢◌, ℕ, List, Option, Some, None, Result, Ok, refl, sym, ap, ◌∙◌, subst}
use Rattle.std.specs.Io.KnownBytes.{Appends}
use Rattle.framing.specs.Message.{MessageView, ReadsMessage, clean, too_large, bad}
use Rattle.wire.specs.declared.reply.Fixed.{Fixed}
use Rattle.wire.specs.declared.reply.Fixed.TheVariants.{TooLarge, BadRequest, Unavailable}
use Rattle.framing.proofs.StreamLemmas.{message_unique, no_message_at_end}
use Rattle.machine.specs.declared.reply.Answer.TheVariants.{Replied}
use Rattle.world.specs.World.{World, IsWorld}
use Rattle.world.specs.Store.{Shown}
use Rattle.machine.specs.Machine.{request_reply, after_request}
use Rattle.machine.proofs.Blind.{blind}
use Rattle.engine.specs.Request.{request_of}
use Rattle.engine.specs.First.{First, Answers, Closes, TakesFirst, ServesFirst, first_bytes, first_status}
use Rattle.engine.specs.First.{first_exchanges}
use Rattle.engine.specs.Isolated.{AnswersByItsShelf}
use Rattle.engine.specs.Exchange.{Outcome, Unserved, Met, Served}
use Rattle.engine.specs.Reply.{bytes_of, page_of, page_status}
use Rattle.engine.specs.Served.{IsClosing, closing_status}
use Rattle.engine.specs.Store.{GoesThrough}
use Rattle.engine.specs.TwoStores.{TwoAnswersAreAlike}
use Rattle.engine.specs.declared.fault.Io.{Io}

some_inside : (a b : ℕ) → Some a ≡ Some b → a ≡ b
some_inside a b e = cc

-- a stream that begins with a message is closed only by 503
closed_by_503 : (closing : Option Fixed) (input : List ℕ) (m : MessageView) (rest : List ℕ) (status : ℕ)
    → ReadsMessage input m rest
    → IsClosing input closing → Some status ≡ closing_status closing → status ≡ 503
closed_by_503 None input m rest status reads closes is = absurd (no_message_at_end input clean closes m rest reads)
closed_by_503 (Some TooLarge) input m rest status reads closes is =
    absurd (no_message_at_end input too_large closes m rest reads)
closed_by_503 (Some BadRequest) input m rest status reads closes is =
    absurd (no_message_at_end input bad closes m rest reads)
closed_by_503 (Some Unavailable) input m rest status reads closes is = some_inside status 503 is
closed_by_503 (Some other) input m rest status reads closes is = absurd closes

-- the call wrote the machine's reply in this world, which the store stood for, and returned its status
record IsReplied (new : Shown) (written written_new : Option (List ℕ)) (w : World) (m : MessageView)
    (status : ℕ) : Type 0
  where
    bytes : Appends written written_new (bytes_of m (Replied (request_reply w (request_of m))))
    number : status ≡ page_status (page_of m (request_reply w (request_of m)))
    stands : new.stands (after_request w (request_of m))

-- the call did so in each world that the store may have stood for
abbrev IsRepliedInEach : Shown → Shown → Option (List ℕ) → Option (List ℕ) → MessageView → ℕ → Type 0
IsRepliedInEach old new written written_new m status =
    new.is_honest → (w : World) → old.stands w → IsReplied new written written_new w m status

module _ (old new : Shown) (u u' written written_new : Option (List ℕ)) where
  -- a message that was answered with another status than 503 was replied to
  outcome_replied : (m : MessageView) (outcome : Outcome) (status : ℕ)
      → let first = Answers (record { message = m; outcome = outcome }) in
      GoesThrough old new (first_exchanges first) → Some status ≡ first_status first
      → Appends written written_new (first_bytes first)
      → status ≢ 503 → IsRepliedInEach old new written written_new m status
  outcome_replied m Unserved status through is appends other honest w stands =
      absurd (other (some_inside status 503 is))
  outcome_replied m (Met fault) status through is appends other honest w stands =
      absurd (other (some_inside status 503 is))
  outcome_replied m (Served reply) status through is appends other honest w stands =
      let at = through.runs.at honest w stands in
      record {
        bytes = subst (λ r. Appends written written_new (bytes_of m (Replied r))) at.run.0 appends;
        number = some_inside status (page_status (page_of m reply)) is ∙ ap (λ r. page_status (page_of m r)) at.run.0;
        stands = at.ends;
      }

  -- the first message of a known input was replied to, if the status is not 503
  first_replied : (first : First) (input : List ℕ) (m : MessageView) (rest : List ℕ) (status : ℕ) → u ≡ Some input
      → TakesFirst u u' first
      → GoesThrough old new (first_exchanges first) → Some status ≡ first_status first
      → Appends written written_new (first_bytes first)
      → ReadsMessage input m rest → status ≢ 503 → IsRepliedInEach old new written written_new m status
  first_replied (Answers x) input m rest status known takes through is appends reads other =
      let same : takes.input ≡ input = rw known at takes.tells in
      let one = message_unique input x.message m takes.stands.0 rest
      (subst (λ bytes. ReadsMessage bytes x.message takes.stands.0) same takes.stands.1) reads in
      subst (λ n. IsRepliedInEach old new written written_new n status) one.0
      (outcome_replied x.message x.outcome status through is appends other)
  first_replied (Closes closing) input m rest status known takes through is appends reads other =
      let same : takes.input ≡ input = rw known at takes.tells in
      absurd (other (closed_by_503 closing input m rest status reads
      (subst (λ bytes. IsClosing bytes closing) same takes.stands) is))

  message_replied : (input : List ℕ) (m : MessageView) (rest : List ℕ) (status : ℕ) → u ≡ Some input
      → ServesFirst old new u u' written written_new (Ok (Some status)) → ReadsMessage input m rest → status ≢ 503
      → IsRepliedInEach old new written written_new m status
  message_replied input m rest status known (first, takes, through, is, appends) reads other =
      first_replied first input m rest status known takes through is appends reads other

  -- `answer_one` answers a message by the shelf of its key alone, unless it writes a 503
  pub alike : ((w : World) → old.stands w → IsWorld w) → (result : Result (Option ℕ) Io)
      → ServesFirst old new u u' written written_new result → AnswersByItsShelf old new u written written_new result
  alike sound result serves input m rest status known reads ended other honest w x s t k stands is_world low seen has
      key =
      let replied = message_replied input m rest status known
      (subst (ServesFirst old new u u' written written_new) ended serves) reads other honest w stands in
      let same = blind w x s t k (request_of m) (sound w stands) is_world low seen has key in
      record {
        bytes = subst (λ r. Appends written written_new (bytes_of m (Replied r))) same.0 replied.bytes;
        stands = replied.stands;
        low = same.1;
      }

-- ---- two stores

-- two stores whose worlds are the same to the caller answer its message alike, unless one writes a 503
pub two_answers_are_alike : (old new old_too new_too : Shown) → ((w : World) → old.stands w → IsWorld w)
    → ((w : World) → old_too.stands w → IsWorld w) → TwoAnswersAreAlike old new old_too new_too
two_answers_are_alike old new old_too new_too sound sound_too w x s m written written_new written_too written_too_new
    status status_too two other other_too =
    let replied = message_replied old new (Some two.input) two.unread written written_new two.input m two.rest status
    refl
    two.serves two.reads other two.honest w two.stands in
    let replied_too = message_replied old_too new_too (Some two.input) two.unread_too written_too written_too_new
    two.input m two.rest status_too refl
    two.serves_too two.reads other_too two.honest_too x two.stands_too in
    let same = blind w x s two.shelf two.key (request_of m) (sound w two.stands) (sound_too x two.stands_too) two.low
    two.sees_it two.belongs_to_it two.asks_with in
    record {
      text = bytes_of m (Replied (request_reply w (request_of m)));
      wrote = replied.bytes;
      wrote_too = subst (λ r. Appends written_too written_too_new (bytes_of m (Replied r))) (sym same.0)
          replied_too.bytes;
      statuses = replied_too.number ∙ ap (λ r. page_status (page_of m r)) (sym same.0) ∙ sym replied.number;
      stands = replied.stands;
      stands_too = replied_too.stands;
      low = same.1;
    }
