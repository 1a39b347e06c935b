-- The bytes of messages.
use Rattle.std.specs.Prelude.{ℕ, List, [], ◌∷◌}
use Rattle.framing.specs.Message.{MessageView, ReadsMessage}

-- the bytes are this message and nothing more
abbrev pub IsMessage : List ℕ → MessageView → Type 0
IsMessage bytes message = ReadsMessage bytes message []

-- each of these pieces is the message beside it
abbrev pub AreMessages : List (List ℕ) → List MessageView → Type 0
AreMessages [] [] = Unit {0}
AreMessages (piece ∷ pieces) (message ∷ messages) = IsMessage piece message × AreMessages pieces messages
AreMessages pieces messages = ⊥
