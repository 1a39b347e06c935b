-- What each event keeps, and how runs can be cut and joined.
use Rattle.std.specs.Prelude.{ℕ, ◌≡◌, ◌⊎◌, List, ◌++◌, length, true}
use Rattle.std.specs.FinMap as map
use Rattle.machine.specs.declared.request.Request.{Request}
use Rattle.machine.specs.declared.request.Event.{Event}
use Rattle.machine.specs.declared.reply.Decision.TheVariants.{Published}
use Rattle.world.specs.declared.registry.RegistryReply.TheVariants.{Done}
use Rattle.machine.specs.declared.reply.Reply.{Reply}
use Rattle.machine.specs.declared.reply.Reply.TheVariants as reply
use Rattle.machine.specs.declared.reply.Answer.{Answer}
use Rattle.world.specs.World.{World, IsWorld, chain}
use Rattle.machine.specs.Machine.{request_reply, after_request, reply_to, after, HasBody, Run}

-- Each event leads from a world to a world.
abbrev pub WorldStays : Type 0
WorldStays = (w : World) (e : Event) → IsWorld w → IsWorld (after w e)

-- Each run leads from a world to a world.
abbrev pub RunsKeepWorlds : Type 0
RunsKeepWorlds = (old new : World) (events : List Event) (answers : List Answer) → IsWorld old
    → Run old events answers new → IsWorld new

-- A shelf that exists still exists after any run, and sees the same shelves.
abbrev pub ChainsStay : Type 0
ChainsStay =
    (old new : World) (s : List ℕ) (events : List Event) (answers : List Answer)
    → map.contains_key old.shelves s ≡ true → Run old events answers new
    → (map.contains_key new.shelves s ≡ true) × (chain new s ≡ chain old s)

-- A request whose reply has a body of its own leaves the world as it was.
abbrev pub BodiesChangeNothing : Type 0
BodiesChangeNothing = (w : World) (a : Request) → HasBody (request_reply w a) → after_request w a ≡ w

-- the reply to a publish that is stored, or to a registry command that is done
abbrev pub IsChange : Reply → Type 0
IsChange (reply.Decided Published) = Unit {0}
IsChange (reply.Registry Done) = Unit {0}
IsChange r = ⊥

-- Any event with another reply leaves the world as it was.
abbrev pub OnlyChangesChange : Type 0
OnlyChangesChange = (w : World) (e : Event) → IsChange (reply_to w e) ⊎ (after w e ≡ w)

-- A run with as many answers as events before a cut can be cut there.
abbrev pub RunsAreCut : Type 0
RunsAreCut =
    (old new : World) (events more : List Event) (answers last : List Answer) → length events ≡ length answers
    → Run old (events ++ more) (answers ++ last) new
    → (mid : World) × Run old events answers mid × Run mid more last new

-- Runs that meet in a world can be joined.
abbrev pub RunsAreJoined : Type 0
RunsAreJoined =
    (old mid new : World) (events more : List Event) (answers last : List Answer)
    → Run old events answers mid → Run mid more last new → Run old (events ++ more) (answers ++ last) new
