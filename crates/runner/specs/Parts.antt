-- A store of some teams' part replies to them as the whole does.
use Rattle.std.specs.Prelude.{ℕ, ◌≡◌, List, [], ◌∷◌, true, false, Some}
use Rattle.std.specs.FinMap as map
use Rattle.world.specs.declared.entry.Holder.{Holder}
use Rattle.world.specs.World.{World, IsWorld, is_among}
use Rattle.world.specs.Part.{is_held}
use Rattle.machine.specs.declared.request.Request.{Request}
use Rattle.machine.specs.declared.request.Event.{Event}
use Rattle.machine.specs.declared.reply.Answer.{Answer}
use Rattle.machine.specs.Machine.{request_reply, after_all, Run, answered, replies_of}
use Rattle.machine.specs.Isolation.{key_of, asking_key}
use Rattle.machine.specs.Parts.{IsNotFound, AllRequested}
use Rattle.store.specs.Parts.{part_of, chains, AreTeams}

-- Each event is a request with a key that belongs to one of these shelves. No request changes where a key belongs, so
-- it still does when the request comes.
abbrev pub AllOf : World → List (List ℕ) → List Event → Type 0
AllOf w ss [] = Unit {0}
AllOf w ss (e ∷ es) =
    ((k : List ℕ) × (h : Holder) × (asking_key e ≡ Some k) × (map.get w.keys k ≡ Some h) × (is_among ss h.shelf ≡ true))
    × AllOf w ss es

-- Two runs, one over the whole and one over the part of some teams, give the same replies if they answered the same
-- requests, each with a key of a shelf that one of the teams sees.
abbrev pub TeamsAreToldTheSame : Type 0
TeamsAreToldTheSame =
    (w new other : World) (ts : List (List ℕ)) (first second : List Event) (told heard : List Answer) → IsWorld w
    → AreTeams w ts
    → Run w first told new → Run (part_of w (chains w ts)) second heard other
    → answered first told ≡ answered second heard → AllOf w (chains w ts) (answered first told)
    → replies_of told ≡ replies_of heard

-- From the part, after any requests, a request whose key belongs to no shelf that one of the teams sees is not found.
abbrev pub OthersOfTeamsAreNotFound : Type 0
OthersOfTeamsAreNotFound =
    (w : World) (ts : List (List ℕ)) (k : List ℕ) (before : List Event) (a : Request)
    → is_held (chains w ts) (map.get w.keys k) ≡ false
    → key_of a ≡ Some k → AllRequested before
    → IsNotFound (request_reply (after_all (part_of w (chains w ts)) before) a)
