-- What is read of a stream, and how what comes next is answered.
use Rattle.std.specs.Prelude.{◌≡◌, ◌≢◌, ℕ, ◌≤◌, ◌<◌, ◌+◌, ◌*◌, ◌⊎◌, List, [], ◌∷◌, ◌++◌}
use Rattle.std.specs.Prelude.{Option, Some, None, length, map, Result, Ok, Err, MatchResult}
use Rattle.std.specs.Io.KnownBytes.{Appends, Keeps}
use Rattle.histories.specs.Account.{Account, Gives, MayFollow}
use Rattle.framing.specs.Message.{ReadsMessage, ReadsMessages}
use Rattle.framing.specs.Framing.{Framing, IsUnfinished, HasMessage, view}
use Rattle.wire.specs.declared.reply.Fixed.TheVariants as fixed
use Rattle.world.specs.Store.{Shown}
use Rattle.engine.specs.Exchange.{Exchange, message_of}
use Rattle.engine.specs.First.{First, Answers, Closes, first_bytes, first_exchanges}
use Rattle.engine.specs.Reply.{text_of, status_of}
use Rattle.engine.specs.Store.{GoesThrough}
use Rattle.engine.specs.Written.{IsBeginning, WritesBeginning}
use Rattle.engine.specs.Served.{read_limit, body_read_limit, IsClosing, closing_status, texts_of}
use Rattle.engine.specs.declared.fault.Io.{Io}
use Rattle.engine.specs.declared.fault.Io.TheVariants as io
use Rattle.engine.specs.declared.next.MessageOrEnd.{MessageOrEnd}
use Rattle.engine.specs.declared.next.MessageOrEnd.TheVariants as came
use Rattle.engine.specs.declared.read.AfterRead.{AfterRead}
use Rattle.engine.specs.declared.read.AfterRead.TheVariants as after_read
use Rattle.engine.specs.declared.session.Handled.{Handled}
use Rattle.engine.specs.declared.session.Handled.TheVariants as handled

-- what is taken from the front of the held bytes, or nothing if more are needed; memory runs out only for a whole
-- message
abbrev pub Takes : Framing → Option MessageOrEnd → Framing → Type 0
Takes old None new = IsUnfinished old.held × (new ≡ old)
Takes old (Some (came.Message message)) new = ReadsMessage old.held (view message) new.held × (new.failure ≡ None)
Takes old (Some (came.End None)) new = ⊥
Takes old (Some (came.End (Some closing))) new =
    ((more : List ℕ) → IsClosing (old.held ++ more) (Some closing))
    × (closing ≡ fixed.Unavailable → HasMessage old.held)

-- without at most the last `read_limit` bytes that came, the stream was unfinished
pub record StaysNear (held bytes : List ℕ) : Type 0 where
  pub early : List ℕ
  pub late : List ℕ
  pub cut : bytes ≡ early ++ late
  pub unfinished : IsUnfinished (held ++ early)
  pub few : length late ≤ read_limit

-- what a read gave the framer, or why it closes the stream; memory runs out only for bytes that came
abbrev pub ReadsOn : Framing → Framing → Account → Account → Result AfterRead Io → Type 0
ReadsOn old new unread unread_new (Ok after_read.GoesOn) =
    (bytes : List ℕ) × Gives unread unread_new bytes × StaysNear old.held bytes
    × (new ≡ record old { held = old.held ++ bytes })
ReadsOn old new unread unread_new (Ok (after_read.Ends closing)) =
    (bytes : List ℕ) × Gives unread unread_new bytes × StaysNear old.held bytes
    × ((more : List ℕ) → MayFollow unread_new more → IsClosing (old.held ++ (bytes ++ more)) closing)
    × (closing ≡ Some fixed.Unavailable → bytes ≢ [])
ReadsOn old new unread unread_new (Err e) = (e ≡ io.Read) × Gives unread unread_new []

-- What is left to do on a stream with these reads left and these bytes held. A read gives at most `body_read_limit`
-- bytes, so each read and each message that is taken lessens it.
abbrev pub work : ℕ → List ℕ → ℕ
work reads held = reads * (body_read_limit + 1) + length held

-- what was read so far after the bytes that were held at first, while no message is whole
pub record ReadSoFar (old now : Framing) (unread unread_now : Account) (reads reads_now : ℕ) : Type 0 where
  pub bytes : List ℕ
  pub consumed : Gives unread unread_now bytes
  pub near : IsUnfinished old.held → StaysNear old.held bytes
  pub held : now.held ≡ old.held ++ bytes
  pub sound : now.failure ≡ None
  pub less : work reads_now now.held ≤ work reads old.held

-- what comes next once these bytes are read after the held ones: a message, which is taken, or what closes the stream
abbrev pub IsNext : Framing → Framing → Account → List ℕ → First → Type 0
IsNext old new unread_new bytes (Answers x) = ReadsMessage (old.held ++ bytes) x.message new.held × (new.failure ≡ None)
IsNext old new unread_new bytes (Closes closing) =
    (more : List ℕ) → MayFollow unread_new more → IsClosing (old.held ++ (bytes ++ more)) closing

-- It comes next in the bytes held and those of the reader, and little more was read than was needed.
pub record TakesNext (old new : Framing) (unread unread_new : Account) (first : First) : Type 0 where
  pub bytes : List ℕ
  pub consumed : Gives unread unread_new bytes
  pub near : IsUnfinished old.held → StaysNear old.held bytes
  pub stands : IsNext old new unread_new bytes first

-- The next message was taken, or the stream is to be closed; or a read failed before that, or no read was left.
abbrev pub Comes : Framing → Framing → ℕ → ℕ → Account → Account → Result MessageOrEnd Io → Type 0
Comes old new reads reads_new unread unread_new (Ok (came.Message message)) =
    (bytes : List ℕ) × Gives unread unread_new bytes × (IsUnfinished old.held → StaysNear old.held bytes)
    × ReadsMessage (old.held ++ bytes) (view message) new.held × (new.failure ≡ None)
    × (work reads_new new.held < work reads old.held)
Comes old new reads reads_new unread unread_new (Ok (came.End closing)) =
    TakesNext old new unread unread_new (Closes closing)
Comes old new reads reads_new unread unread_new (Err e) =
    (e ≡ io.Read) × ((bytes : List ℕ) × Gives unread unread_new bytes × IsUnfinished (old.held ++ bytes))

-- how what comes next is handled
abbrev pub handled_of : First → Handled
handled_of (Answers x) = handled.Answered (status_of x)
handled_of (Closes closing) = handled.Closed closing

-- the status that was written, if one was
abbrev pub handled_status : Handled → Option ℕ
handled_status (handled.Answered status) = Some status
handled_status (handled.Closed closing) = closing_status closing

abbrev pub IsAnswered : Handled → Type 0
IsAnswered (handled.Answered status) = Unit {0}
IsAnswered (handled.Closed closing) = ⊥

abbrev pub IsClosed : Handled → Type 0
IsClosed (handled.Answered status) = ⊥
IsClosed (handled.Closed closing) = Unit {0}

-- The next message was answered as the machine answers it, or the stream was closed without one. Or a read failed
-- before, and nothing was done; or a write failed, and a beginning was written.
abbrev pub AnswersNext :
    Shown → Shown → Account → Account → Option (List ℕ) → Option (List ℕ) → Framing → Framing
    → Result Handled Io → Type 0
AnswersNext old new unread unread_new written written_new held held_new (Ok handled) =
    (first : First) × TakesNext held held_new unread unread_new first × GoesThrough old new (first_exchanges first)
    × (handled ≡ handled_of first) × Appends written written_new (first_bytes first)
AnswersNext old new unread unread_new written written_new held held_new (Err io.Read) =
    (bytes : List ℕ) × Gives unread unread_new bytes × IsUnfinished (held.held ++ bytes) × GoesThrough old new []
    × Keeps written written_new
AnswersNext old new unread unread_new written written_new held held_new (Err io.Write) =
    (first : First) × TakesNext held held_new unread unread_new first × GoesThrough old new (first_exchanges first)
    × WritesBeginning written written_new (first_bytes first)

-- the result of `finish`: the status, `Io::Write` if the flush failed, or the error of answering
abbrev pub EndsBy : Result Handled Io → Result (Option ℕ) Io → Type 0
EndsBy (Ok handled) (Ok status) = status ≡ handled_status handled
EndsBy (Ok handled) (Err e) = e ≡ io.Write
EndsBy (Err e) result = result ≡ Err e

-- the messages at the front of the input were answered, and rest follows them
pub record Answered
    (old new : Shown) (written written_new : Option (List ℕ)) (input rest : List ℕ) : Type 0 where
  pub exchanges : List Exchange
  pub reads : ReadsMessages input (map message_of exchanges) rest
  pub through : GoesThrough old new exchanges
  pub appended : Appends written written_new (texts_of exchanges)

-- the messages at the front of the input were answered, the last with only a beginning of its answer, and rest follows
-- them
pub record CutShort
    (old new : Shown) (written written_new : Option (List ℕ)) (input rest : List ℕ) : Type 0 where
  pub first : List Exchange
  pub last : Exchange
  pub front : List ℕ
  pub reads : ReadsMessages input (map message_of (first ++ last ∷ [])) rest
  pub through : GoesThrough old new (first ++ last ∷ [])
  pub begins : IsBeginning front (text_of last)
  pub appended : Appends written written_new (texts_of first ++ front)

-- what was read so far is the answered messages and what the framer holds
pub record SoFar
    (old new : Shown) (unread unread_new : Account) (written written_new : Option (List ℕ))
    (framing : Framing) : Type 0 where
  pub got : List ℕ
  pub consumed : Gives unread unread_new got
  pub answered : Answered old new written written_new got framing.held
  pub sound : framing.failure ≡ None

-- the writer got the whole text and was flushed, or a write or the flush failed
abbrev pub Delivers : {T : Type 0} → Option (List ℕ) → Option (List ℕ) → List ℕ → Result T Io → Type 0
Delivers old new text result =
    MatchResult result (λ _. Appends old new text)
    (λ e. (e ≡ io.Write) × (WritesBeginning old new text ⊎ Appends old new text))
