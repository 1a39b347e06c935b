-- What an action does, and why it failed.
use Rattle.std.specs.Borrow.{Bor}
use Rattle.std.proofs.Common.{◌≡◌, ℕ, List, Bool, Option, Result, Ok, Err, IfErr, OnOk, ap, refl, subst, sym, ◌∙◌}
use Rattle.histories.specs.Calls.{Writes}
use Rattle.socket.specs.declared.deed.ListenOn.{ListenOn}
use Rattle.control.specs.Reserve.{DiskDeed}
use Rattle.world.specs.Store.{Shown}
use Rattle.orders.specs.declared.command.RegistryCommand.{RegistryCommand}
use Rattle.commands.specs.Action.{Acts, ActsAlone, Moment, NeverIo, ServesFor, Views, WritesErrors, acceptance}
use Rattle.commands.specs.Ending.{Registers, RevokesNamed}
use Rattle.commands.specs.Serve.{Counted, Made}
use Rattle.commands.specs.declared.action.Action.{Action}
use Rattle.commands.specs.declared.action.Action.TheVariants as action
use Rattle.commands.specs.declared.refusal.CommandRefusal.{CommandRefusal}
use Rattle.commands.proofs.NewKeys.{never_io, never_registers}

-- what an action that is no `serve` does is what an action does
pub any_action : {S N P O : Type 0} (views : Views N P O) (shown : S → Shown) (made : Made S) (counted : Counted S)
    (old new : Moment S N) (result : Result Bool CommandRefusal) (act : Action)
    → ActsAlone views shown old new result act → Acts views shown made counted old new result act
any_action views shown made counted old new result (action.Serve entrance connections control) acts = absurd acts
any_action views shown made counted old new result _ acts = acts

-- nobody is served
pub serves_none : {S N P O : Type 0} (views : Views N P O) (shown : S → Shown) (made : Made S) (counted : Counted S)
    (old new : Moment S N) (times : List (Option (List ℕ))) (writes writes_new : Writes)
    (errors errors_new : Option (List ℕ) × Writes) (file : List ℕ) (deeds : List DiskDeed) (result : Result Bool CommandRefusal)
    (act : Action)
    → ((entrance : ListenOn) (connections : ℕ) (control : Option (Bor (List ℕ)))
    → ¬ (act ≡ action.Serve entrance connections control))
    → ServesFor views shown made counted old new times writes writes_new errors errors_new file deeds deeds result act
serves_none views shown made counted old new times writes writes_new errors errors_new file deeds result
    (action.Serve entrance connections control) other = absurd (other entrance connections control refl)
serves_none views shown made counted old new times writes writes_new errors errors_new file deeds result _ other = refl

-- it writes nothing to the writer of errors
pub unwritten : (act : Action) (errors : Option (List ℕ))
    → ((entrance : ListenOn) (connections : ℕ) (control : Option (Bor (List ℕ)))
    → ¬ (act ≡ action.Serve entrance connections control))
    → WritesErrors act errors errors
unwritten (action.Serve entrance connections control) errors other = absurd (other entrance connections control refl)
unwritten _ errors other = refl

-- why a command failed is why it was not accepted
because : (ended : Result (Unit {0}) CommandRefusal) (why : CommandRefusal → Type 0) → IfErr ended why
    → IfErr (acceptance ended) why
because (Ok u) why has = tt
because (Err refusal) why has = has

pub not_accepted : (ended : Result (Unit {0}) CommandRefusal) (result : Result Bool CommandRefusal)
    (why : CommandRefusal → Type 0) → result ≡ acceptance ended → IfErr ended why → IfErr result why
not_accepted ended result why is has = subst (λ r. IfErr r why) (sym is) (because ended why has)

-- what holds of a command that is done holds of one that is accepted
pub accepted : (ended : Result (Unit {0}) CommandRefusal) (result : Result Bool CommandRefusal) (holds : Type 0)
    → result ≡ acceptance ended → OnOk ended holds → OnOk result holds
accepted (Ok u) result holds is has = subst (λ r. OnOk r holds) (sym is) has
accepted (Err refusal) result holds is has = subst (λ r. OnOk r holds) (sym is) tt

-- a registry command that failed did not do so with `Io`
pub registry_cause : (old new : Shown) (order : RegistryCommand) (ended : Result (Unit {0}) CommandRefusal)
    → Registers old new order ended → NeverIo ended
registry_cause old new order (Ok u) registers = tt
registry_cause old new order (Err refusal) registers = never_registers old new order refusal registers

pub revoked_cause : (old new : Shown) (fingerprint : List ℕ) (ended : Result (Unit {0}) CommandRefusal)
    → RevokesNamed old new fingerprint ended → NeverIo ended
revoked_cause old new fingerprint (Ok u) revokes = tt
revoked_cause old new fingerprint (Err refusal) revokes =
    λ is. never_io revokes.told (sym (ap Err is) ∙ revokes.ends)
