-- What the framer says of the bytes that it holds.
use Rattle.std.specs.Prelude.{◌≡◌, ◌≢◌, [], ℕ, ◌≤◌, ◌<◌, ◌+◌, ◌⊎◌, List, ◌++◌, length}
use Rattle.std.specs.Prelude.{drop, map, Option, Some, None, Result, MatchResult, ⊤}
use Rattle.std.specs.List.{slice_range}
use Rattle.std.specs.Prelude.{Vec}
use Rattle.std.specs.declared.alloc.Global.{Global}
use Rattle.httparse.specs.Grammar.{RequestHead, HasNoRequest, MayBecomeRequest}
use Rattle.framing.specs.Message.{body_limit, head_limit, MessageView, BeginsWith, ReadsMessage, End, too_large, bad}
use Rattle.framing.specs.Message.{Ends}
use Rattle.framing.specs.declared.framer.Bad.{Bad}
use Rattle.framing.specs.declared.framer.Bad.TheVariants.{BadRequest, TooLarge}
use Rattle.framing.specs.declared.framer.Next.{Next}
use Rattle.framing.specs.declared.framer.Next.TheVariants as next
use Rattle.framing.specs.declared.message.Message.{Message}
use Rattle.framing.specs.declared.message.Memory.{Memory}

-- the bytes of each text
abbrev pub texts : List (Vec ℕ Global) → List (List ℕ)
texts vs = map (λ v. v.items) vs

-- a message without where it lies in memory
abbrev pub view : Message → MessageView
view m = record {
  method = m.method.items;
  target = m.target.items;
  body = m.body.items;
  mod_lengths = texts m.mod_lengths.items;
  version_times = texts m.version_times.items;
}

-- a message with another body
abbrev pub with_body : List ℕ → MessageView → MessageView
with_body body m = record m { body = body }

-- no whole head begins the bytes, but more bytes may complete one, and the bytes are fewer than a head may have
abbrev pub MayBeginHead : List ℕ → Type 0
MayBeginHead bytes = HasNoRequest bytes × MayBecomeRequest bytes × (length bytes < head_limit)

-- more bytes are needed: the head is not whole, or the body is not
abbrev pub IsOpen : List ℕ → Type 0
IsOpen bytes =
    MayBeginHead bytes
    ⊎ ((head : RequestHead) × (n : ℕ) × (rest : List ℕ) × BeginsWith bytes head n rest × (n ≤ body_limit)
    × (length rest < n))

-- the end of a stream with this failure
abbrev pub end_of : Bad → End
end_of BadRequest = bad
end_of TooLarge = too_large

-- however the bytes go on, the stream ends with them in this failure
pub record IsBad (bytes : List ℕ) (failure : Bad) : Type 0 where
  pub ends : (more : List ℕ) → Ends (bytes ++ more) (end_of failure)

-- the bytes may begin a message, which more bytes complete; if none come, the stream ends badly, unless there are no
-- bytes
pub record IsUnfinished (bytes : List ℕ) : Type 0 where
  pub begun : IsOpen bytes
  pub ends : bytes ≢ [] → Ends bytes bad

-- a framer: the bytes that it was fed and has not returned, and its failure, if it has failed
pub record Framing : Type 0 where
  pub held : List ℕ
  pub failure : Option Bad

-- the answer to the bytes held, and what is held after it
abbrev pub Answers : Framing → Next → Framing → Type 0
Answers old (next.Message message) new = ReadsMessage old.held (view message) new.held × (new.failure ≡ None)
Answers old next.NeedMore new = IsUnfinished old.held × (new ≡ old)
Answers old (next.Bad failure) new = IsBad old.held failure × (new.held ≡ old.held) × (new.failure ≡ Some failure)

-- if the call succeeds, it returns the body after a head of the bytes held
abbrev pub GivesBody : Framing → ℕ → ℕ → Result (Vec ℕ Global) Memory → Type 0
GivesBody old head body result =
    MatchResult result (λ taken. taken.items ≡ slice_range old.held head (head + body)) (λ e. ⊤)

-- the call removed the first `n` bytes held, or it failed and changed nothing
abbrev pub TakesOff : {T : Type 0} → Framing → ℕ → Result T Memory → Framing → Type 0
TakesOff old n result new = MatchResult result (λ _. new ≡ record old { held = drop n old.held }) (λ e. new ≡ old)

-- the bytes begin a message of length `wanted`
pub record HasBegun (bytes : List ℕ) (wanted : ℕ) : Type 0 where
  pub head : RequestHead
  pub body : ℕ
  pub rest : List ℕ
  pub begins : BeginsWith bytes head body rest
  pub small : body ≤ body_limit
  pub sum : wanted + length rest ≡ length bytes + body

-- the bytes begin a message of length `wanted`, unless `wanted` is 0
abbrev pub Awaits : List ℕ → ℕ → Type 0
Awaits bytes wanted = 0 < wanted → HasBegun bytes wanted

-- the bytes begin with a whole message
abbrev pub HasMessage : List ℕ → Type 0
HasMessage bytes = (message : MessageView) × (rest : List ℕ) × ReadsMessage bytes message rest
