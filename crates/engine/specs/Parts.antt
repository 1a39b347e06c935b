-- What two stores write for the messages of a team, if the second stands for the team's part of the first one's world.
use Rattle.std.specs.Prelude.{ℕ, ◌≡◌, ◌⊎◌, List, [], ◌∷◌, Some, false, map}
use Rattle.std.specs.FinMap as fin
use Rattle.wire.specs.Reply.{fixed_bytes}
use Rattle.wire.specs.declared.reply.Fixed.TheVariants.{NotFound}
use Rattle.world.specs.World.{World, IsWorld, chain}
use Rattle.world.specs.Part.{part, is_held}
use Rattle.machine.specs.Machine.{Run}
use Rattle.machine.specs.Isolation.{key_of}
use Rattle.machine.specs.Parts.{AllOwn}
use Rattle.engine.specs.Request.{request_of}
use Rattle.engine.specs.Exchange.{Exchange, event_of, answer_of}
use Rattle.engine.specs.AnsweredEvent.{AnsweredEvent, origin_of, event_at, answer_at, text_at, faultless}
use Rattle.engine.specs.Headline.{unavailable}
use Rattle.engine.specs.Reply.{text_of}

-- Two runs, one from a world and one from a team's part of it, write the same texts if they answered the same messages,
-- each with a key of a shelf that the team sees.
abbrev pub PartWritesTheSame : Type 0
PartWritesTheSame =
    (w new other : World) (s : List ℕ) (xs ys : List AnsweredEvent) → IsWorld w
    → Run w (map event_at xs) (map answer_at xs) new → Run (part w s) (map event_at ys) (map answer_at ys) other
    → map origin_of (faultless xs) ≡ map origin_of (faultless ys) → AllOwn w s (map event_at (faultless xs))
    → map text_at (faultless xs) ≡ map text_at (faultless ys)

-- From the part, after any messages, a message whose key belongs to no shelf that the team sees gets the 404 or the
-- 503.
abbrev pub OthersAreWrittenNotFound : Type 0
OthersAreWrittenNotFound =
    (w mid new : World) (s k : List ℕ) (before : List Exchange) (x : Exchange)
    → is_held (chain w s) (fin.get w.keys k) ≡ false → key_of (request_of x.message) ≡ Some k
    → Run (part w s) (map event_of before) (map answer_of before) mid → Run mid (event_of x ∷ []) (answer_of x ∷ []) new
    → (text_of x ≡ fixed_bytes NotFound) ⊎ (text_of x ≡ unavailable)
