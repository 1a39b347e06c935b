-- The world that a run over shelves in memory begins with, and how it ends.
use Rattle.std.specs.Prelude.{ℕ, List, ◌≡◌, true, Option, None, Result, Ok, Err}
use Rattle.histories.specs.Account.{Account}
use Rattle.histories.specs.Calls.{Reads, Writes}
use Rattle.engine.specs.Causes.{IsCaused}
use Rattle.engine.specs.Served.{ServesAllHeard}
use Rattle.engine.specs.declared.fault.Io.{Io as Failure}
use Rattle.memory_store.specs.InMemory.{in_memory}
use Rattle.world.specs.Store.{Shown}
use Rattle.world.specs.World.{World, only_common, with_team, with_key, is_team_name, is_key}
use Rattle.world.specs.declared.entry.Right.TheVariants.{Publishes}
use Rattle.commands.specs.declared.refusal.CommandRefusal.{CommandRefusal}
use Rattle.commands.specs.declared.refusal.CommandRefusal.TheVariants.{Name, Memory, Io}

-- `common`, one team, and the team's publishing key
abbrev pub opening : List ℕ → List ℕ → World
opening team key = with_key (with_team only_common team None) key (record { shelf = team; right = Publishes })

-- the team and the key keep the rules of their kinds
pub record AreNames (team key : List ℕ) : Type 0 where
  pub team_name : is_team_name team ≡ true
  pub key_name : is_key key ≡ true

-- the requests were answered from shelves in memory that began at this world, with this result
abbrev pub ServedFrom : World → Account → Account → Option (List ℕ) → Option (List ℕ) → Result (Unit {0}) Failure
    → Type 0
ServedFrom start came came_new written written_new result =
    (end : World) × ServesAllHeard (in_memory start) (in_memory end) came came_new written written_new result

-- If the team and the key keep their rules, the requests are answered, or memory ran out before that. Otherwise nothing
-- is read or written.
abbrev pub AnsweredFor :
    List ℕ → List ℕ → Account → Account → Option (List ℕ) → Option (List ℕ) → Result (Unit {0}) CommandRefusal → Type 0
AnsweredFor team key came came_new written written_new (Ok u) =
    AreNames team key × ServedFrom (opening team key) came came_new written written_new (Ok tt)
AnsweredFor team key came came_new written written_new (Err Io) =
    AreNames team key × ((failure : Failure)
    × ServedFrom (opening team key) came came_new written written_new (Err failure))
AnsweredFor team key came came_new written written_new (Err Name) =
    (¬ AreNames team key) × (came_new ≡ came) × (written_new ≡ written)
AnsweredFor team key came came_new written written_new (Err Memory) =
    AreNames team key × (came_new ≡ came) × (written_new ≡ written)
AnsweredFor team key came came_new written written_new (Err other) = ⊥

-- The requests were answered from shelves that went from old to new, with this result.
abbrev pub AnswersAll :
    Shown → Shown → Account → Account → Option (List ℕ) → Option (List ℕ) → Result (Unit {0}) CommandRefusal → Type 0
AnswersAll old new came came_new written written_new (Ok u) =
    ServesAllHeard old new came came_new written written_new (Ok tt)
AnswersAll old new came came_new written written_new (Err Io) =
    (failure : Failure) × ServesAllHeard old new came came_new written written_new (Err failure)
AnswersAll old new came came_new written written_new (Err other) = ⊥

-- A stream failed, and this was done until then: a call of the input failed or no read is left, or a call of the output
-- failed.
abbrev pub Breaks : (Failure → Type 0) → Reads → Reads → Writes → Writes → Type 0
Breaks done reads reads_new writes writes_new =
    (failure : Failure) × done failure × IsCaused reads reads_new writes writes_new failure
