-- What running a command did, running an equal one did.
use Rattle.std.proofs.Common.{◌≡◌, ℕ, List, Bool, Option, Result, refl, sym, subst}
use Rattle.network.specs.History.{Done}
use Rattle.store_files.specs.History.{Span}
use Rattle.sqlite.specs.State.{State}
use Rattle.histories.specs.Account.{Account}
use Rattle.world.specs.Store.{Shown}
use Rattle.commands.specs.Action.{acceptance}
use Rattle.commands.specs.Connection.{Passed}
use Rattle.commands.specs.declared.refusal.CommandRefusal.{CommandRefusal}
use Rattle.file_action.specs.OnFile.{Deeds}
use Rattle.runner.specs.Command.{EndsAlone, Runs}
use Rattle.runner.specs.declared.Command.{Command}

-- what running a command did, running an equal one did (the stores are parameters, so that neither of them is unfolded)
pub ran : {S C N : Type 0} (acts : Deeds S N) (state_of : C → State) (shown : S → Shown) (files targets : Span S C)
    (older : Span C C) {L : Type 0} (all : L → Passed → Type 0) (connected connected_new : List (Done L))
    (outside outside_new : N) (came came_new : Account) (written written_new : Option (List ℕ))
    (result : Result Bool CommandRefusal) (t u : Command) → t ≡ u
    → Runs acts state_of shown files targets older all connected connected_new outside outside_new came came_new written written_new result u
    → Runs acts state_of shown files targets older all connected connected_new outside outside_new came came_new written written_new result t
ran acts state_of shown files targets older all connected connected_new outside outside_new came came_new written written_new result t u is done =
    subst (Runs acts state_of shown files targets older all connected connected_new outside outside_new came came_new written written_new result) (sym is) done

-- a command that did this, and read and wrote nothing, did it alone
pub alone : {N : Type 0} (outside : N) (came : Account) (written : Option (List ℕ)) (result : Result Bool CommandRefusal)
    (done : Result (Unit {0}) CommandRefusal → Type 0)
    (ended : Result (Unit {0}) CommandRefusal) → done ended → result ≡ acceptance ended
    → EndsAlone outside outside came came written written result done
alone outside came written result done ended does is =
    record { ended = ended; does = does; tells = record { tells = is; idle = refl; input = refl; output = refl } }
