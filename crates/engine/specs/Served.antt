-- What `answer_all` does with a stream.
use Rattle.std.specs.Prelude.{◌≡◌, ◌≢◌, ℕ, ◌⊎◌, List, [], ◌∷◌, ◌++◌, Option, Some, None, map, Result, Ok, Err}
use Rattle.std.specs.List.{flat_map}
use Rattle.std.specs.Io.KnownBytes.{Consumes, Appends}
use Rattle.histories.specs.Account.{Account, Gives, MayFollow, IsKnownInput}
use Rattle.framing.specs.Message.{ReadsMessages, Ends, clean, too_large, bad}
use Rattle.framing.specs.Framing.{IsUnfinished}
use Rattle.wire.specs.Reply.{fixed_bytes, fixed_status}
use Rattle.wire.specs.declared.reply.Fixed.{Fixed}
use Rattle.wire.specs.declared.reply.Fixed.TheVariants.{TooLarge, BadRequest, Unavailable}
use Rattle.world.specs.Store.{Shown}
use Rattle.engine.specs.Exchange.{Exchange, message_of}
use Rattle.engine.specs.Reply.{text_of}
use Rattle.engine.specs.Store.{GoesThrough}
use Rattle.engine.specs.Written.{IsBeginning}
use Rattle.engine.specs.declared.fault.Io.{Io}
use Rattle.engine.specs.declared.fault.Io.TheVariants as io

-- the most bytes that are read after a message
abbrev pub read_limit : ℕ
read_limit = 4096

-- the most bytes of one read, however many of a message are missing
abbrev pub body_read_limit : ℕ
body_read_limit = 65536

-- What closes a stream whose messages leave this rest: nothing at a good end, the 413 for a body that is too large, the
-- 400 for any other rest; or one 503 in place of what is left if memory runs out.
abbrev pub IsClosing : List ℕ → Option Fixed → Type 0
IsClosing rest None = Ends rest clean
IsClosing rest (Some TooLarge) = Ends rest too_large
IsClosing rest (Some BadRequest) = Ends rest bad
IsClosing rest (Some Unavailable) = rest ≢ []
IsClosing rest (Some other) = ⊥

abbrev pub closing_bytes : Option Fixed → List ℕ
closing_bytes None = []
closing_bytes (Some closing) = fixed_bytes closing

abbrev pub closing_status : Option Fixed → Option ℕ
closing_status None = None
closing_status (Some closing) = Some (fixed_status closing)

-- all texts for the exchanges, one after another
abbrev pub texts_of : List Exchange → List ℕ
texts_of exchanges = flat_map text_of exchanges

-- a write failed: in the last answer, in what closes the stream, or only in the flush after it
abbrev pub IsBrokenOff : List Exchange → List ℕ → List ℕ → Type 0
IsBrokenOff exchanges rest out =
    ((first : List Exchange) × (last : Exchange) × (front : List ℕ) × (exchanges ≡ first ++ last ∷ [])
    × IsBeginning front (text_of last) × (out ≡ texts_of first ++ front))
    ⊎ ((closing : Option Fixed) × (front : List ℕ) × IsClosing rest closing
    × IsBeginning front (closing_bytes closing) × (out ≡ texts_of exchanges ++ front))
    ⊎ ((closing : Option Fixed) × IsClosing rest closing × (out ≡ texts_of exchanges ++ closing_bytes closing))

-- How the call ended. A good end: all messages were answered, and the stream was closed. A failed read: each message
-- that was read was answered, and what was read after them is no whole message. A failed write: as `IsBrokenOff` says.
abbrev pub Ended : Option (List ℕ) → Option (List ℕ) → List Exchange → List ℕ → List ℕ → List ℕ → Result (Unit {0}) Io
    → Type 0
Ended unread unread_new exchanges input rest out (Ok u) =
    IsKnownInput unread input
    × ((closing : Option Fixed) × IsClosing rest closing × (out ≡ texts_of exchanges ++ closing_bytes closing))
Ended unread unread_new exchanges input rest out (Err io.Read) =
    Consumes unread unread_new input × IsUnfinished rest × (out ≡ texts_of exchanges)
Ended unread unread_new exchanges input rest out (Err io.Write) = IsKnownInput unread input
    × IsBrokenOff exchanges rest out

-- The messages at the front of the input were answered one after another, as the machine answers them, and then the
-- call ended as `Ended` says.
pub record Serves
    (old new : Shown) (unread unread_new written written_new : Option (List ℕ))
    (result : Result (Unit {0}) Io) : Type 0 where
  pub exchanges : List Exchange
  pub input : List ℕ
  pub rest : List ℕ
  pub out : List ℕ
  pub reads : ReadsMessages input (map message_of exchanges) rest
  pub through : GoesThrough old new exchanges
  pub appended : Appends written written_new out
  pub ends : Ended unread unread_new exchanges input rest out result

-- ---- over an account

-- this closes a stream with this rest, whatever may follow
abbrev pub ClosesAfter : Account → List ℕ → Option Fixed → Type 0
ClosesAfter after rest closing = (more : List ℕ) → MayFollow after more → IsClosing (rest ++ more) closing

-- a write failed: in the last answer, in what closes the stream, or only in the flush after it
abbrev pub IsBrokenOffAfter : Account → List Exchange → List ℕ → List ℕ → Type 0
IsBrokenOffAfter after exchanges rest out =
    ((first : List Exchange) × (last : Exchange) × (front : List ℕ) × (exchanges ≡ first ++ last ∷ [])
    × IsBeginning front (text_of last) × (out ≡ texts_of first ++ front))
    ⊎ ((closing : Option Fixed) × (front : List ℕ) × ClosesAfter after rest closing
    × IsBeginning front (closing_bytes closing) × (out ≡ texts_of exchanges ++ front))
    ⊎ ((closing : Option Fixed) × ClosesAfter after rest closing × (out ≡ texts_of exchanges ++ closing_bytes closing))

-- how the call ended, as `Ended` says
abbrev pub EndedAfter : Account → List Exchange → List ℕ → List ℕ → Result (Unit {0}) Io → Type 0
EndedAfter after exchanges rest out (Ok u) =
    (closing : Option Fixed) × ClosesAfter after rest closing × (out ≡ texts_of exchanges ++ closing_bytes closing)
EndedAfter after exchanges rest out (Err io.Read) = IsUnfinished rest × (out ≡ texts_of exchanges)
EndedAfter after exchanges rest out (Err io.Write) = IsBrokenOffAfter after exchanges rest out

-- as `Serves` says, of what was heard
pub record ServesAllHeard
    (old new : Shown) (came came_new : Account) (written written_new : Option (List ℕ))
    (result : Result (Unit {0}) Io) : Type 0 where
  pub exchanges : List Exchange
  pub bytes : List ℕ
  pub rest : List ℕ
  pub out : List ℕ
  pub gives : Gives came came_new bytes
  pub reads : ReadsMessages bytes (map message_of exchanges) rest
  pub through : GoesThrough old new exchanges
  pub appended : Appends written written_new out
  pub ends : EndedAfter came_new exchanges rest out result
