-- What a shelf sees of a world, taken as a world of its own, answers the shelf as the whole world does.
use Rattle.std.specs.Prelude.{ℕ, ◌≡◌, List, [], ◌∷◌, true, false, Some}
use Rattle.std.specs.FinMap as map
use Rattle.world.specs.declared.entry.Holder.{Holder}
use Rattle.machine.specs.declared.request.Request.{Request}
use Rattle.machine.specs.declared.request.Event.{Event}
use Rattle.machine.specs.declared.request.Event.TheVariants.{Requested}
use Rattle.machine.specs.declared.reply.Decision.TheVariants as decision
use Rattle.machine.specs.declared.reply.Reply.{Reply}
use Rattle.machine.specs.declared.reply.Reply.TheVariants as reply
use Rattle.machine.specs.declared.reply.Answer.{Answer}
use Rattle.world.specs.World.{World, IsWorld, chain, sees}
use Rattle.world.specs.Part.{part, is_held}
use Rattle.machine.specs.Machine.{request_reply, after_all, replies, Run, answered, replies_of}
use Rattle.machine.specs.Isolation.{key_of, asking_key, Low}

-- A world and the part of it that a shelf sees are the same to the shelf.
abbrev pub PartIsLow : Type 0
PartIsLow = (w : World) (s : List ℕ) → IsWorld w → Low w (part w s) s

-- ---- lists of requests

-- a request with a key of a shelf that s sees
abbrev pub IsOwn : World → List ℕ → Event → Type 0
IsOwn w s e = (k : List ℕ) × (h : Holder) × (asking_key e ≡ Some k) × (map.get w.keys k ≡ Some h)
    × (sees w s h.shelf ≡ true)

-- Each event is a request with a key of a shelf that s sees. No request changes what a key holds, so this holds at its
-- moment too.
abbrev pub AllOwn : World → List ℕ → List Event → Type 0
AllOwn w s [] = Unit {0}
AllOwn w s (e ∷ es) = IsOwn w s e × AllOwn w s es

-- In worlds that are the same to s, a list of such requests gets equal replies, and leads to worlds that are again the
-- same to s.
abbrev pub IsBlindThroughout : Type 0
IsBlindThroughout =
    (w x : World) (s : List ℕ) (es : List Event) → IsWorld w → IsWorld x → Low w x s → AllOwn w s es
    → (replies w es ≡ replies x es) × Low (after_all w es) (after_all x es) s

-- A run over the world and a run over what s sees of it give equal replies, if their answered events are equal and are
-- requests with keys of shelves that s sees.
abbrev pub PartTellsTheSame : Type 0
PartTellsTheSame =
    (w new other : World) (s : List ℕ) (first second : List Event) (told heard : List Answer) → IsWorld w
    → Run w first told new → Run (part w s) second heard other
    → answered first told ≡ answered second heard → AllOwn w s (answered first told)
    → replies_of told ≡ replies_of heard

-- ---- requests of others

-- the reply says that something was not found
abbrev pub IsNotFound : Reply → Type 0
IsNotFound reply.NotFound = Unit {0}
IsNotFound (reply.Decided decision.NotFound) = Unit {0}
IsNotFound r = ⊥

-- each event is a request
abbrev pub AllRequested : List Event → Type 0
AllRequested [] = Unit {0}
AllRequested (Requested a ∷ es) = AllRequested es
AllRequested (e ∷ es) = ⊥

-- In what s sees of a world, after any requests, a request whose key belongs to no shelf that s sees is not found.
abbrev pub OthersAreNotFound : Type 0
OthersAreNotFound =
    (w : World) (s k : List ℕ) (before : List Event) (a : Request) → is_held (chain w s) (map.get w.keys k) ≡ false
    → key_of a ≡ Some k → AllRequested before → IsNotFound (request_reply (after_all (part w s) before) a)
