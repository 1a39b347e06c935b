-- A store of some teams' part writes for them what the whole writes.
use Rattle.std.specs.Prelude.{ℕ, ◌≡◌, ◌⊎◌, List, [], ◌∷◌, Some, false, map}
use Rattle.std.specs.FinMap as fin
use Rattle.wire.specs.Reply.{fixed_bytes}
use Rattle.wire.specs.declared.reply.Fixed.TheVariants.{NotFound}
use Rattle.world.specs.World.{World, IsWorld}
use Rattle.world.specs.Part.{is_held}
use Rattle.machine.specs.Machine.{Run}
use Rattle.machine.specs.Isolation.{key_of}
use Rattle.engine.specs.Request.{request_of}
use Rattle.engine.specs.Exchange.{Exchange, event_of, answer_of}
use Rattle.engine.specs.AnsweredEvent.{AnsweredEvent, origin_of, event_at, answer_at, text_at, faultless}
use Rattle.engine.specs.Headline.{unavailable}
use Rattle.engine.specs.Reply.{text_of}
use Rattle.store.specs.Parts.{part_of, chains, AreTeams}
use Rattle.runner.specs.Parts.{AllOf}

-- Two runs, one from a world and one from the part of some teams, write the same texts if they answered the same
-- messages, each with a key of a shelf that one of the teams sees.
abbrev pub TeamsAreWrittenTheSame : Type 0
TeamsAreWrittenTheSame =
    (w new other : World) (ts : List (List ℕ)) (xs ys : List AnsweredEvent) → IsWorld w → AreTeams w ts
    → Run w (map event_at xs) (map answer_at xs) new
    → Run (part_of w (chains w ts)) (map event_at ys) (map answer_at ys) other
    → map origin_of (faultless xs) ≡ map origin_of (faultless ys) → AllOf w (chains w ts) (map event_at (faultless xs))
    → map text_at (faultless xs) ≡ map text_at (faultless ys)

-- From the part, after any messages, a message whose key belongs to no shelf that one of the teams sees gets the 404 or
-- the 503.
abbrev pub OthersOfTeamsAreWrittenNotFound : Type 0
OthersOfTeamsAreWrittenNotFound =
    (w mid new : World) (ts : List (List ℕ)) (k : List ℕ) (before : List Exchange) (x : Exchange)
    → is_held (chains w ts) (fin.get w.keys k) ≡ false → key_of (request_of x.message) ≡ Some k
    → Run (part_of w (chains w ts)) (map event_of before) (map answer_of before) mid
    → Run mid (event_of x ∷ []) (answer_of x ∷ []) new
    → (text_of x ≡ fixed_bytes NotFound) ⊎ (text_of x ≡ unavailable)
